-- The words of the command line.
use Rattle.std.specs.Prelude.{IfSome, IsUtf8, true, None, ◌≡◌, ℕ, ◌+◌, ◌==◌, ◌&&◌, nat_eq, nat_le, ◌≤◌, Bool, false, not, List, [], ◌∷◌, length, drop, Result, Ok, Err, codes, map, String, if◌then◌else◌, Option, Some, unwrap_or, ℤ}
use Rattle.std.specs.List.{starts_with}
use Rattle.std.specs.Str.{all_ascii_digits, bytes_eq}
use Rattle.std.specs.Str.Parse.{digits_value, signed_digits_value, without_leading_sign}
use Rattle.std.specs.String.{string_bytes}
use Rattle.std.specs.declared.alloc.Global.{Global}
use Rattle.column_map.specs.Columns.{IsOffset}
use Rattle.rip_words.specs.declared.Command.{Command}
use Rattle.rip_words.specs.declared.Command.TheVariants.{Register, Verify, Offsets, Repair, Upgrade, MatchSums, Sums, Trial, Split, Join, ListStore, CheckStore, MergeStores}
use Rattle.rip_basics.specs.FileNames.{ends_in_slash}
use Rattle.rip_words.specs.FileNames.{is_quotable, name_in_folder}
use Rattle.column_map.specs.declared.npar.Npar.{Npar}
use Rattle.column_map.specs.declared.npar.Npar.TheVariants.{Four, Eight, Sixteen, ThirtyTwo}
use Rattle.rip_words.specs.declared.Request.{Request}
use Rattle.rip_words.specs.declared.Request.TheVariants.{One, Batch}
use Rattle.rip_words.specs.declared.Verb.{Verb}
use Rattle.rip_words.specs.declared.Verb.TheVariants.{Register as ToRegister, Verify as ToVerify, Offsets as ToOffsets, Repair as ToRepair, Upgrade as ToUpgrade, MatchSums as ToMatchSums}
use Rattle.rip_words.specs.declared.WordsFail.{WordsFail}
use Rattle.rip_words.specs.declared.WordsFail.TheVariants.{Usage, Oom}

abbrev pub texts : List (String Global) → List (List ℕ)
texts words = map string_bytes words

-- a word that names a file isn't empty and doesn't begin with "-"
abbrev pub is_name : List ℕ → Bool
is_name [] = false
is_name (first ∷ rest) = not (first == 45)

-- a word that names a folder names a file too, and ends in "/"
abbrev pub is_folder : List ℕ → Bool
is_folder word = is_name word && ends_in_slash word

-- ---- the options

-- the option that says how many: `--npar=4`, `--npar=8`, `--npar=16` or `--npar=32`
abbrev pub npar_option : List ℕ → Option Npar
npar_option word =
    if bytes_eq word (codes "--npar=4") then Some Four
    else if bytes_eq word (codes "--npar=8") then Some Eight
    else if bytes_eq word (codes "--npar=16") then Some Sixteen
    else if bytes_eq word (codes "--npar=32") then Some ThirtyTwo
    else None

-- an offset's digits: one to four decimal ones, with a value of at most 5,879
abbrev pub is_offset_digits : List ℕ → Bool
is_offset_digits digits = all_ascii_digits digits && nat_le 1 (length digits) && nat_le (length digits) 4 && nat_le (digits_value 10 digits) 5879

-- An offset in samples is written with a `+`, a `-` or no sign, and its digits.
abbrev pub offset_of : List ℕ → Option ℤ
offset_of number = if is_offset_digits (without_leading_sign number) then Some (signed_digits_value 10 number) else None

-- the option that says at which offset the rip is: `--offset=N`
abbrev pub offset_option : List ℕ → Option ℤ
offset_option word = if starts_with nat_eq word (codes "--offset=") then offset_of (drop (length (codes "--offset=")) word) else None

-- the option at this index, once it was read: no word stands after it
abbrev pub last_option : {A : Type 0} → ℕ → Option A → List (List ℕ) → Result (Option A) ℕ
last_option at None rest = Err at
last_option at (Some value) [] = Ok (Some value)
last_option at (Some value) (more ∷ rest) = Err (at + 1)

-- the words from this index on: one option, which `read` reads, or nothing
abbrev pub option_words : {A : Type 0} → (List ℕ → Option A) → ℕ → List (List ℕ) → Result (Option A) ℕ
option_words read at [] = Ok None
option_words read at (option ∷ rest) = last_option at (read option) rest

-- ---- the numbers of a trial

-- a number of one to so many decimal digits, from `least` to `most`
abbrev pub is_number : ℕ → ℕ → ℕ → List ℕ → Bool
is_number digits least most word =
    all_ascii_digits word && nat_le 1 (length word) && nat_le (length word) digits && nat_le least (digits_value 10 word) && nat_le (digits_value 10 word) most

-- a number as it is written: its digits, with no sign
abbrev pub number_of : ℕ → ℕ → ℕ → List ℕ → Option ℕ
number_of digits least most word = if is_number digits least most word then Some (digits_value 10 word) else None

-- the sectors: from 30 to 9,000
abbrev pub sectors_of : List ℕ → Option ℕ
sectors_of = number_of 4 30 9000

-- the seed: any that fits 32 bits
abbrev pub seed_of : List ℕ → Option ℕ
seed_of = number_of 10 0 4294967295

-- the hits: at most 58,800
abbrev pub hits_of : List ℕ → Option ℕ
hits_of = number_of 5 0 58800

-- ---- the commands with two names: INPUT, and REC or RESP

-- no word stands at this index
abbrev pub no_word : ℕ → Command → List (List ℕ) → Result Command ℕ
no_word at command [] = Ok command
no_word at command (more ∷ rest) = Err at

-- the command with the value of its option
abbrev pub with_option : {A : Type 0} → (A → Command) → Result A ℕ → Result Command ℕ
with_option command (Ok value) = Ok (command value)
with_option command (Err word) = Err word

-- the words after `repair INPUT REC`: OUT, and an offset or none
abbrev pub out_words : List ℕ → List ℕ → List (List ℕ) → Result Command ℕ
out_words input rec [] = Err 3
out_words input rec (to ∷ rest) = if is_name to then with_option (Repair input rec to) (option_words offset_option 4 rest) else Err 3

-- the words after a command's own and its two names
abbrev pub command_words : Verb → List ℕ → List ℕ → List (List ℕ) → Result Command ℕ
command_words ToRegister input rec words = with_option (λ npar. Register input rec (unwrap_or npar Eight)) (option_words npar_option 3 words)
command_words ToVerify input rec words = with_option (Verify input rec) (option_words offset_option 3 words)
command_words ToOffsets input rec words = no_word 3 (Offsets input rec) words
command_words ToRepair input rec words = out_words input rec words
command_words ToUpgrade input rec words = no_word 3 (Upgrade input rec) words
command_words ToMatchSums input resp words = no_word 3 (MatchSums input resp) words

-- the words after a command's own and INPUT: the second name, and what that command has
abbrev pub record_words : Verb → List ℕ → List (List ℕ) → Result Command ℕ
record_words verb input [] = Err 2
record_words verb input (rec ∷ rest) = if is_name rec then command_words verb input rec rest else Err 2

-- the words after the own one of a command with two names: INPUT, the second name, and what that command has
abbrev pub input_words : Verb → List (List ℕ) → Result Command ℕ
input_words verb [] = Err 1
input_words verb (input ∷ rest) = if is_name input then record_words verb input rest else Err 1

-- the own words of these commands
unfoldable pub verb_of : List ℕ → Option Verb
verb_of word =
    if bytes_eq word (codes "register") then Some ToRegister
    else if bytes_eq word (codes "verify") then Some ToVerify
    else if bytes_eq word (codes "offsets") then Some ToOffsets
    else if bytes_eq word (codes "repair") then Some ToRepair
    else if bytes_eq word (codes "upgrade") then Some ToUpgrade
    else if bytes_eq word (codes "match") then Some ToMatchSums
    else None

-- the words after the first, of such a command
abbrev pub verb_words : Option Verb → List (List ℕ) → Result Command ℕ
verb_words None rest = Err 0
verb_words (Some verb) rest = input_words verb rest

-- ---- the other commands

-- what comes of the value of the word at this index, if it has one
abbrev pub with_value : {A : Type 0} → ℕ → (A → Result Command ℕ) → Option A → Result Command ℕ
with_value at next None = Err at
with_value at next (Some value) = next value

-- the words from this index on: the first has a value by `read`, and `next` says what comes of it and the words after it
abbrev pub first_word : {A : Type 0} → ℕ → (List ℕ → Option A) → (A → List (List ℕ) → Result Command ℕ) → List (List ℕ) → Result Command ℕ
first_word at read next [] = Err at
first_word at read next (word ∷ rest) = with_value at (λ value. next value rest) (read word)

-- the words after `sums`: INPUT
abbrev pub sums_words : List (List ℕ) → Result Command ℕ
sums_words [] = Err 1
sums_words (input ∷ rest) = if is_name input then no_word 2 (Sums input) rest else Err 1

-- nothing stands at this index
abbrev pub end_of_words : {A : Type 0} → ℕ → A → List (List ℕ) → Result A ℕ
end_of_words at value [] = Ok value
end_of_words at value (more ∷ rest) = Err at

-- the last word, which is at this index: a folder
abbrev pub folder_word : ℕ → List (List ℕ) → Result (List ℕ) ℕ
folder_word at [] = Err at
folder_word at (folder ∷ rest) = if is_folder folder then end_of_words (at + 1) folder rest else Err at

-- the words after `split`: INPUT and FOLDER
abbrev pub split_words : List (List ℕ) → Result Command ℕ
split_words [] = Err 1
split_words (input ∷ rest) = if is_name input then with_option (Split input) (folder_word 2 rest) else Err 1

-- the words after `merge`: FROM and TO
abbrev pub merge_words : List (List ℕ) → Result Command ℕ
merge_words [] = Err 1
merge_words (from ∷ rest) = if is_folder from then with_option (MergeStores from) (folder_word 2 rest) else Err 1

-- the words after `join`: INPUT, and OUT, whose name in its folder may stand in a sheet
abbrev pub file_words : List ℕ → List (List ℕ) → Result Command ℕ
file_words input [] = Err 2
file_words input (to ∷ rest) = if is_name to && is_quotable (name_in_folder to) then no_word 3 (Join input to) rest else Err 2

abbrev pub join_words : List (List ℕ) → Result Command ℕ
join_words [] = Err 1
join_words (input ∷ rest) = if is_name input then file_words input rest else Err 1

-- the words after `trial`: SECTORS, SEED, SHIFT and HITS
abbrev pub trial_words : List (List ℕ) → Result Command ℕ
trial_words =
    first_word 1 sectors_of (λ sectors. first_word 2 seed_of (λ seed. first_word 3 offset_of (λ shift. first_word 4 hits_of (λ hits. no_word 5 (Trial sectors seed shift hits)))))

-- ---- all commands

-- The command, or the index of the first word that breaks a rule, or the number of words where one is missing.
abbrev pub command_reading : List (List ℕ) → Result Command ℕ
command_reading [] = Err 0
command_reading (first ∷ rest) =
    if bytes_eq first (codes "sums") then sums_words rest
    else if bytes_eq first (codes "split") then split_words rest
    else if bytes_eq first (codes "join") then join_words rest
    else if bytes_eq first (codes "list") then with_option ListStore (folder_word 1 rest)
    else if bytes_eq first (codes "check") then with_option CheckStore (folder_word 1 rest)
    else if bytes_eq first (codes "merge") then merge_words rest
    else if bytes_eq first (codes "trial") then trial_words rest
    else verb_words (verb_of first) rest

-- ---- what the words ask for

-- the request for one command
abbrev pub one_command : Result Command ℕ → Result Request ℕ
one_command (Ok command) = Ok (One command)
one_command (Err word) = Err word

-- the words after `batch`: LIST
abbrev pub batch_words : List (List ℕ) → Result Request ℕ
batch_words [] = Err 1
batch_words (list ∷ rest) = if is_name list then end_of_words 2 (Batch list) rest else Err 1

-- One command or a list of them, or the index of the first word that breaks a rule, or the number of words where one is missing.
abbrev pub request_reading : List (List ℕ) → Result Request ℕ
request_reading [] = Err 0
request_reading (first ∷ rest) = if bytes_eq first (codes "batch") then batch_words rest else one_command (command_reading (first ∷ rest))

-- what is read is the meaning of the words
abbrev pub ReadsWords : {A : Type 0} → Result A WordsFail → Result A ℕ → Type 0
ReadsWords (Ok read) meaning = meaning ≡ Ok read
ReadsWords (Err (Usage word)) meaning = meaning ≡ Err word
ReadsWords (Err Oom) meaning = Unit {0}

-- the offset that a command gives the rip
abbrev pub offset_in : Command → Option ℤ
offset_in (Register input rec npar) = None
offset_in (Verify input rec offset) = offset
offset_in (Offsets input rec) = None
offset_in (Repair input rec to offset) = offset
offset_in (Upgrade input rec) = None
offset_in (MatchSums input resp) = None
offset_in (Sums input) = None
offset_in (Split input folder) = None
offset_in (Join input to) = None
offset_in (ListStore folder) = None
offset_in (CheckStore folder) = None
offset_in (MergeStores from to) = None
offset_in (Trial sectors seed shift hits) = None

-- a trial has from 30 to 9,000 sectors, an offset as its shift, and at most 58,800 hits
pub record IsTrial (sectors : ℕ) (shift : ℤ) (hits : ℕ) : Type 0 where
  pub least_sectors : 30 ≤ sectors
  pub most_sectors : sectors ≤ 9000
  pub shift_offset : IsOffset shift
  pub most_hits : hits ≤ 58800

-- the numbers of a command that is a trial
abbrev pub TrialIsInRange : Command → Type 0
TrialIsInRange (Register input rec npar) = Unit {0}
TrialIsInRange (Verify input rec offset) = Unit {0}
TrialIsInRange (Offsets input rec) = Unit {0}
TrialIsInRange (Repair input rec to offset) = Unit {0}
TrialIsInRange (Upgrade input rec) = Unit {0}
TrialIsInRange (MatchSums input resp) = Unit {0}
TrialIsInRange (Sums input) = Unit {0}
TrialIsInRange (Split input folder) = Unit {0}
TrialIsInRange (Join input to) = Unit {0}
TrialIsInRange (ListStore folder) = Unit {0}
TrialIsInRange (CheckStore folder) = Unit {0}
TrialIsInRange (MergeStores from to) = Unit {0}
TrialIsInRange (Trial sectors seed shift hits) = IsTrial sectors shift hits

-- ---- the names of a command

-- A folder ends in "/", and the name of the one file that `join` writes may stand in a sheet, in its folder.
abbrev pub NamesMayStand : Command → Type 0
NamesMayStand (Register input rec npar) = Unit {0}
NamesMayStand (Verify input rec offset) = Unit {0}
NamesMayStand (Offsets input rec) = Unit {0}
NamesMayStand (Repair input rec to offset) = Unit {0}
NamesMayStand (Upgrade input rec) = Unit {0}
NamesMayStand (MatchSums input resp) = Unit {0}
NamesMayStand (Sums input) = Unit {0}
NamesMayStand (Split input folder) = ends_in_slash folder ≡ true
NamesMayStand (ListStore folder) = ends_in_slash folder ≡ true
NamesMayStand (CheckStore folder) = ends_in_slash folder ≡ true
NamesMayStand (MergeStores from to) = (ends_in_slash from ≡ true) × (ends_in_slash to ≡ true)
NamesMayStand (Join input to) = (is_quotable (name_in_folder to) ≡ true) × IsUtf8 (name_in_folder to)
NamesMayStand (Trial sectors seed shift hits) = Unit {0}

-- a command that may be run: its offset and its numbers are in range, and its names may stand
pub record MayRunCommand (command : Command) : Type 0 where
  pub offset : IfSome (offset_in command) IsOffset
  pub trial : TrialIsInRange command
  pub names : NamesMayStand command

-- one command is such a one; those of a list are read later
abbrev pub MayRun : Request → Type 0
MayRun (One command) = MayRunCommand command
MayRun (Batch list) = Unit {0}
