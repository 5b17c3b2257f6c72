-- The lines that are written of a disc, as a sheet's reader reads them.
use Rattle.std.proofs.Common.{◌≡◌, ◌∙◌, ℕ, ◌+◌, ◌-◌, ◌/◌, ◌%◌, ◌<◌, ◌≤◌, List, [], ◌∷◌, ◌++◌, length, Bool, true, false, ◌||◌, None, Some, Ok, refl, ap, arith}
use Rattle.std.specs.Prelude.{◌==◌, codes, nat_le, nat_lt}
use Rattle.std.specs.Str.{is_utf8}
use Rattle.std.proofs.lemmas.Bool.Decides.{nat_tests}
use Rattle.cue_sheet.specs.Lines.{after_word, is_blank, trim_end, trim_start, without_return, word_of}
use Rattle.cue_sheet.specs.Parts.{is_quote, label_of, name_of, named, quoted, same_word}
use Rattle.cue_sheet.specs.Reading.{State, command_of, file_reading, has_file, has_track, index_reading, is_unread, line_check, line_reading, part, pregap_reading, track_reading, words_reading}
use Rattle.track_split.specs.Sheets.{file_line, index_line, number_line, time_text, two_digits}
use Rattle.track_split.proofs.ClearLaws.{IsClear, after-at, any-at, before-at, clear-append, clear_seen, clear_weaker, first_stays, last_other, some_length}
use Rattle.track_split.proofs.DigitLaws.{label_of_two, ones, tens, time_of_text}

-- a line feed or a carriage return
abbrev pub is_break : ℕ → Bool
is_break byte = byte == 10 || byte == 13

abbrev is_return : ℕ → Bool
is_return byte = byte == 13

-- a name that may stand in quote marks in a line
pub record IsQuotable (name : List ℕ) : Type 0 where
  pub some : 0 < length name
  pub quotes : IsClear is_quote name
  pub breaks : IsClear is_break name
  pub text : is_utf8 name ≡ true

-- ---- a line without a carriage return

kept : (line : List ℕ) → IsClear is_return line → without_return line ≡ line
unfolding without_return
kept [] clear = refl
kept (x ∷ text) clear = let last : length (x ∷ text) - 1 ≡ length text = omega arith in rw (last, last_other 13 x text clear) refl

line_from : (state : State) (line : List ℕ) → IsClear is_return line → line_reading state line ≡ words_reading state (trim_start line)
unfolding line_reading
line_from state line clear = ap (λ text. words_reading state (trim_start text)) (kept line clear)

trim_first : (x : ℕ) (text : List ℕ) → is_blank x ≡ false → trim_start (x ∷ text) ≡ x ∷ text
unfolding trim_start
trim_first x text clear = first_stays is_blank x text clear

-- ---- a FILE line

file_words : (state : State) (rest : List ℕ) → words_reading state (trim_start (codes "FILE " ++ rest)) ≡ file_reading state (trim_start rest)
unfolding words_reading trim_start word_of after_word command_of is_unread same_word part
file_words state rest = rw (some_length 70 (codes "ILE " ++ rest)) refl

named_some : (name rest : List ℕ) → 0 < length name → named name rest ≡ Some record { name = name; rest = rest }
named_some [] rest some = absurd (omega arith)
named_some (x ∷ name) rest some = refl

name_in_quotes : (name rest : List ℕ) → IsQuotable name → name_of (34 ∷ (name ++ 34 ∷ rest)) ≡ Some record { name = name; rest = rest }
unfolding name_of quoted
name_in_quotes name rest may =
    rw (any-at is_quote name rest 34 refl, before-at is_quote name rest 34 may.quotes refl, after-at is_quote name rest 34 may.quotes refl) (named_some name rest may.some)

under : (number limit : ℕ) → number < limit → nat_lt number limit ≡ true
under number limit below = grind (arith, nat_tests)

is_wave : same_word (trim_end (trim_start (codes " WAVE"))) (codes "WAVE") ≡ true
unfolding same_word trim_end trim_start
is_wave = refl

file_of : (state : State) (name : List ℕ) → IsQuotable name → length state.files < 100
    → file_reading state (34 ∷ (name ++ 34 ∷ codes " WAVE")) ≡ Ok record state { files = state.files ++ name ∷ []; time = 0 }
unfolding file_reading part line_check
file_of state name may few = rw (name_in_quotes name (codes " WAVE") may, may.text, is_wave, under (length state.files) 100 few) refl

pub return_from_break : (byte : ℕ) → is_break byte ≡ false → is_return byte ≡ false
return_from_break byte e = grind (arith, nat_tests)

clear_name : (name : List ℕ) → IsQuotable name → IsClear is_return name
clear_name name may = clear_weaker is_break is_return name return_from_break may.breaks

file_clear : (name : List ℕ) → IsQuotable name → IsClear is_return (file_line name)
file_clear name may =
    clear-append is_return (codes "FILE \"" ++ name) (codes "\" WAVE") (clear-append is_return (codes "FILE \"") name (clear_seen is_return (codes "FILE \"") refl) (clear_name name may))
    (clear_seen is_return (codes "\" WAVE") refl)

-- a line that names a file
pub file_read : (state : State) (name : List ℕ) → IsQuotable name → length state.files < 100
    → line_reading state (file_line name) ≡ Ok record state { files = state.files ++ name ∷ []; time = 0 }
file_read state name may few =
    line_from state (file_line name) (file_clear name may)
    ∙ file_words state (34 ∷ (name ++ 34 ∷ codes " WAVE"))
    ∙ ap (file_reading state) (trim_first 34 (name ++ 34 ∷ codes " WAVE") refl)
    ∙ file_of state name may few

-- ---- a TRACK line

two_clear : (number : ℕ) → number < 100 → IsClear is_return (two_digits number)
two_clear number below = ((tens number below).not_return, ((ones number).not_return, tt))

two_solid : (number : ℕ) → number < 100 → IsClear is_blank (two_digits number)
two_solid number below = ((tens number below).not_blank, ((ones number).not_blank, tt))

number_clear : (number : ℕ) → number < 100 → IsClear is_return (number_line number)
number_clear number below =
    clear-append is_return (codes "  TRACK " ++ two_digits number) (codes " AUDIO")
    (clear-append is_return (codes "  TRACK ") (two_digits number) (clear_seen is_return (codes "  TRACK ") refl) (two_clear number below))
    (clear_seen is_return (codes " AUDIO") refl)

track_words : (state : State) (rest : List ℕ) → words_reading state (trim_start (codes "  TRACK " ++ rest)) ≡ track_reading state (trim_start rest)
unfolding words_reading trim_start word_of after_word command_of is_unread same_word part
track_words state rest = rw (some_length 84 (codes "RACK " ++ rest)) refl

-- the word of two digits before a blank, and what follows it
two_word : (number : ℕ) (rest : List ℕ) → number < 100 → word_of (two_digits number ++ 32 ∷ rest) ≡ two_digits number
unfolding word_of
two_word number rest below = before-at is_blank (two_digits number) rest 32 (two_solid number below) refl

after_two : (number : ℕ) (rest : List ℕ) → number < 100 → after_word (two_digits number ++ 32 ∷ rest) ≡ trim_start rest
unfolding after_word
after_two number rest below = ap trim_start (after-at is_blank (two_digits number) rest 32 (two_solid number below) refl)

is_audio : same_word (trim_end (trim_start (codes "AUDIO"))) (codes "AUDIO") ≡ true
unfolding same_word trim_end trim_start
is_audio = refl

same_number : (a b : ℕ) → a ≡ b → (a == b) ≡ true
same_number a b same = grind (arith, nat_tests)

track_of : (state : State) (number : ℕ) → number < 100 → has_file state ≡ true → number ≡ state.number + 1 → length state.tracks ≡ state.number
    → track_reading state (two_digits number ++ 32 ∷ codes "AUDIO") ≡ Ok record state { number = number; index = None }
unfolding track_reading part line_check
track_of state number below has next complete =
    rw (has, two_word number (codes "AUDIO") below, label_of_two number below, after_two number (codes "AUDIO") below, is_audio, same_number number (state.number + 1) next, same_number (length state.tracks) state.number complete) refl

-- a line that begins a track
pub track_read : (state : State) (number : ℕ) → number < 100 → has_file state ≡ true → number ≡ state.number + 1 → length state.tracks ≡ state.number
    → line_reading state (number_line number) ≡ Ok record state { number = number; index = None }
track_read state number below has next complete =
    line_from state (number_line number) (number_clear number below)
    ∙ track_words state (two_digits number ++ 32 ∷ codes "AUDIO")
    ∙ ap (track_reading state) (trim_first (48 + number / 10) _ (tens number below).not_blank)
    ∙ track_of state number below has next complete

-- ---- lines with a time

time_clear : (sectors : ℕ) → sectors < 450000 → IsClear is_return (time_text sectors)
time_clear sectors below =
    let m = two_clear (sectors / 75 / 60) (omega arith) in
    let s = two_clear (sectors / 75 % 60) (omega arith) in
    let f = two_clear (sectors % 75) (omega arith) in
    (m.0, (m.1.0, (refl, (s.0, (s.1.0, (refl, f))))))

-- a time begins and ends with a digit
time_first : (sectors : ℕ) → sectors < 450000 → trim_start (time_text sectors) ≡ time_text sectors
time_first sectors below = trim_first (48 + sectors / 75 / 60 / 10) _ (tens (sectors / 75 / 60) (omega arith)).not_blank

time_last : (sectors : ℕ) → trim_end (time_text sectors) ≡ time_text sectors
unfolding trim_end
time_last sectors = rw (ones (sectors % 75)).not_blank refl

index_clear : (sectors : ℕ) → sectors < 450000 → IsClear is_return (index_line sectors)
index_clear sectors below = clear-append is_return (codes "    INDEX 01 ") (time_text sectors) (clear_seen is_return (codes "    INDEX 01 ") refl) (time_clear sectors below)

index_words : (state : State) (rest : List ℕ) → words_reading state (trim_start (codes "    INDEX " ++ rest)) ≡ index_reading state (trim_start rest)
unfolding words_reading trim_start word_of after_word command_of is_unread same_word part
index_words state rest = rw (some_length 73 (codes "NDEX " ++ rest)) refl

one_word : (rest : List ℕ) → word_of (codes "01 " ++ rest) ≡ codes "01"
unfolding word_of
one_word rest = refl

after_one : (rest : List ℕ) → after_word (codes "01 " ++ rest) ≡ trim_start rest
unfolding after_word
after_one rest = refl

label_one : label_of (codes "01") ≡ Some 1
label_one = label_of_two 1 (omega arith)

not_above : (a b : ℕ) → a ≤ b → nat_le a b ≡ true
not_above a b low = grind (arith, nat_tests)

index_of : (state : State) (time : ℕ) → time < 450000 → has_track state ≡ true → state.index ≡ None → state.time ≤ time
    → index_reading state (codes "01 " ++ time_text time) ≡ Ok record state { index = Some 1; time = time; tracks = state.tracks ++ record { file = length state.files - 1; index01 = time } ∷ [] }
unfolding index_reading part line_check
index_of state time below has none low =
    rw (has, one_word (time_text time), label_one, after_one (time_text time), time_first time below, time_last time, time_of_text time below, none, not_above state.time time low) refl

-- a line that says where a track begins
pub index_read : (state : State) (time : ℕ) → time < 450000 → has_track state ≡ true → state.index ≡ None → state.time ≤ time
    → line_reading state (index_line time) ≡ Ok record state { index = Some 1; time = time; tracks = state.tracks ++ record { file = length state.files - 1; index01 = time } ∷ [] }
index_read state time below has none low =
    line_from state (index_line time) (index_clear time below)
    ∙ index_words state (codes "01 " ++ time_text time)
    ∙ ap (index_reading state) (trim_first 48 (codes "1 " ++ time_text time) refl)
    ∙ index_of state time below has none low

abbrev pub pregap_line : ℕ → List ℕ
pregap_line pregap = codes "    PREGAP " ++ time_text pregap

pregap_clear : (sectors : ℕ) → sectors < 450000 → IsClear is_return (pregap_line sectors)
pregap_clear sectors below = clear-append is_return (codes "    PREGAP ") (time_text sectors) (clear_seen is_return (codes "    PREGAP ") refl) (time_clear sectors below)

pregap_words : (state : State) (rest : List ℕ) → words_reading state (trim_start (codes "    PREGAP " ++ rest)) ≡ pregap_reading state (trim_start rest)
unfolding words_reading trim_start word_of after_word command_of is_unread same_word part
pregap_words state rest = rw (some_length 80 (codes "REGAP " ++ rest)) refl

pregap_of : (state : State) (pregap : ℕ) → pregap < 450000 → state.number ≡ 1 → length state.tracks ≡ 0 → state.pregap ≡ None
    → pregap_reading state (time_text pregap) ≡ Ok record state { pregap = Some pregap }
unfolding pregap_reading part line_check
pregap_of state pregap below first none unsaid =
    rw (first, same_number (length state.tracks) 0 none, unsaid, time_last pregap, time_of_text pregap below) refl

-- a line that says what comes before the first track
pub pregap_read : (state : State) (pregap : ℕ) → pregap < 450000 → state.number ≡ 1 → length state.tracks ≡ 0 → state.pregap ≡ None
    → line_reading state (pregap_line pregap) ≡ Ok record state { pregap = Some pregap }
pregap_read state pregap below first none unsaid =
    line_from state (pregap_line pregap) (pregap_clear pregap below)
    ∙ pregap_words state (time_text pregap)
    ∙ ap (pregap_reading state) (time_first pregap below)
    ∙ pregap_of state pregap below first none unsaid
