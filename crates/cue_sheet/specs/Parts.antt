-- The parts of a line: words in any case, numbers, times and names.
use Rattle.std.specs.Prelude.{◌≡◌, ℕ, ◌+◌, ◌*◌, ◌==◌, ◌&&◌, Bool, not, nat_lt, nat_le, List, [], ◌∷◌, length, Option, None, Some, if◌then◌else◌}
use Rattle.std.specs.List.{before_first, after_first, list_any}
use Rattle.std.specs.Str.{all_ascii_digits, str_eq_ignore_ascii_case}
use Rattle.std.specs.Str.Parse.{digits_value}
use denote.Ref.{Bor}
use Rattle.cue_sheet.specs.Lines.{word_of, after_word}

-- the same word, but for the case of ASCII letters
unfoldable pub same_word : List ℕ → List ℕ → Bool
same_word word other = str_eq_ignore_ascii_case word other

-- a number of one to so many digits that is below the limit
unfoldable pub number_under : ℕ → ℕ → List ℕ → Option ℕ
number_under most limit word =
    if all_ascii_digits word && not (length word == 0) && nat_le (length word) most && nat_lt (digits_value 10 word) limit
    then Some (digits_value 10 word)
    else None

-- a number of a track or of an index: one or two digits
abbrev pub label_of : List ℕ → Option ℕ
label_of word = number_under 2 100 word

-- the sectors of a time, of which each second has 75
abbrev pub time_sectors : Option ℕ → Option ℕ → Option ℕ → Option ℕ
time_sectors (Some minutes) (Some seconds) (Some frames) = Some ((minutes * 60 + seconds) * 75 + frames)
time_sectors minutes seconds frames = None

abbrev pub is_colon : ℕ → Bool
is_colon byte = byte == 58

-- a time: one to three digits of minutes, a colon, one or two of seconds, a colon, one or two of frames
unfoldable pub time_of : List ℕ → Option ℕ
time_of text =
    let seconds_on = after_first is_colon text in
    time_sectors (number_under 3 1000 (before_first is_colon text)) (number_under 2 60 (before_first is_colon seconds_on)) (number_under 2 75 (after_first is_colon seconds_on))

-- ---- the name of a file

-- a name, and what stands after it
pub record Named : Type 0 where
  pub name : List ℕ
  pub rest : List ℕ

-- there are no empty names
abbrev pub named : List ℕ → List ℕ → Option Named
named [] rest = None
named (first ∷ others) rest = Some record { name = first ∷ others; rest = rest }

abbrev pub is_quote : ℕ → Bool
is_quote byte = byte == 34

-- a name after its first quote mark: it runs to the next one, which has to be there
unfoldable pub quoted : List ℕ → Option Named
quoted text = if list_any is_quote text then named (before_first is_quote text) (after_first is_quote text) else None

-- a name in quote marks, or else one that is a word
unfoldable pub name_of : List ℕ → Option Named
name_of [] = None
name_of (first ∷ others) =
    if is_quote first then quoted others
    else named (word_of (first ∷ others)) (after_word (first ∷ others))

-- exactly the name and the rest that are read
abbrev pub ReadsName : Option (Bor (List ℕ) × Bor (List ℕ)) → Option Named → Type 0
ReadsName None reading = reading ≡ None
ReadsName (Some found) reading = reading ≡ Some record { name = found.0.now; rest = found.1.now }
