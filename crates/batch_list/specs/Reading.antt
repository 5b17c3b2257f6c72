-- Lists of discs: a TOML text with an array `disc` of tables, each with an array `words` of texts. Discs count from 1.
use Rattle.std.specs.Prelude.{◌≡◌, ℕ, ◌==◌, Bool, nat_lt, List, [], ◌∷◌, length, map, Option, None, Some, option_and_then, Result, Ok, Err, IsOk, codes, if◌then◌else◌}
use Rattle.std.specs.List.{enumerate_from, filter_map, list_all}
use Rattle.std.specs.Option.{is_some, option_map_or}
use Rattle.std.specs.Result.{result_map_both}
use Rattle.std.specs.Str.{is_utf8}
use Rattle.toml.specs.Data.{Data, Items, no_items, item, Members, as_array, as_str, get, get_member}
use Rattle.toml.specs.Parse.{parse_document}
use Rattle.rip_words.specs.Command.{command_reading}
use Rattle.batch_list.specs.declared.fail.ListKind.{ListKind}
use Rattle.batch_list.specs.declared.fail.ListKind.TheVariants.{NotToml, NoDiscs, TooMany, BadDisc, BadWords}
use Rattle.batch_list.specs.declared.fail.ListFail.{ListFail}
use Rattle.batch_list.specs.declared.fail.ListFail.TheVariants.{Refused, Oom}

-- the elements of an array, in their order
abbrev pub elements : Items → List Data
elements no_items = []
elements (item first rest) = first ∷ elements rest

-- ---- the words of a disc

abbrev pub is_text : Data → Bool
is_text value = is_some (as_str value)

-- the texts that these values are, if each is a text
abbrev pub all_texts : List Data → Option (List (List ℕ))
all_texts values = if list_all is_text values then Some (filter_map as_str values) else None

-- the texts of the array `words`, if a disc is a table that has such an array
abbrev pub disc_words : Data → Option (List (List ℕ))
disc_words disc = option_and_then (λ array. all_texts (elements array)) (option_and_then as_array (get (codes "words") disc))

-- the words of the disc with this number, where they are those of a command other than `batch`, which alone is no such command
abbrev pub words_for : ℕ → List (List ℕ) → Result (List (List ℕ)) ListKind
words_for number words = result_map_both (λ command. words) (BadWords number) (command_reading words)

-- the disc with this number: its words, or why it is refused
unfoldable pub disc_reading : ℕ → Data → Result (List (List ℕ)) ListKind
disc_reading number disc = option_map_or (words_for number) (disc_words disc) (Err (BadDisc number))

-- ---- the whole

-- the values that all of these have, or the first refusal among them
abbrev pub all_read : {A E : Type 0} → List (Result A E) → Result (List A) E
all_read [] = Ok []
all_read (Err refusal ∷ rest) = Err refusal
all_read (Ok first ∷ rest) = result_map_both (λ others. first ∷ others) (λ refusal. refusal) (all_read rest)

-- what each disc is read as
abbrev pub each_disc : List Data → List (Result (List (List ℕ)) ListKind)
each_disc discs = map (λ numbered. disc_reading numbered.0 numbered.1) (enumerate_from 1 discs)

-- the elements of the array `disc`, or none where there is no such array
abbrev pub discs_in : Members → List Data
discs_in document = option_map_or elements (option_and_then as_array (get_member (codes "disc") document)) []

-- one to a thousand discs, each with its words
unfoldable pub discs_reading : List Data → Result (List (List (List ℕ))) ListKind
discs_reading discs =
    if length discs == 0 then Err NoDiscs
    else if nat_lt 1000 (length discs) then Err TooMany
    else all_read (each_disc discs)

-- the list that these bytes are, or why they are refused
unfoldable pub list_reading : List ℕ → Result (List (List (List ℕ))) ListKind
list_reading bytes =
    if is_utf8 bytes then option_map_or (λ document. discs_reading (discs_in document)) (parse_document bytes) (Err NotToml)
    else Err NotToml

-- ---- what a call answers

-- exactly what is read, or exactly its refusal, or want of memory
abbrev pub Lists : {A : Type 0} → Result A ListFail → Result A ListKind → Type 0
Lists (Ok read) reading = reading ≡ Ok read
Lists (Err (Refused kind)) reading = reading ≡ Err kind
Lists (Err Oom) reading = Unit {0}

-- the words of a command other than `batch`
abbrev pub IsDiscWords : List (List ℕ) → Type 0
IsDiscWords words = IsOk (command_reading words)
