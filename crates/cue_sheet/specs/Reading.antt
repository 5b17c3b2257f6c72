-- How a cue sheet is read: line by line, each as its command says.
use Rattle.std.specs.Prelude.{◌≡◌, ℕ, ◌+◌, ◌-◌, ◌==◌, ◌&&◌, ◌||◌, Bool, not, nat_lt, nat_le, List, [], ◌∷◌, ◌++◌, length, Option, None, Some, unwrap_or, Result, Ok, Err, codes, if◌then◌else◌}
use Rattle.std.specs.Option.{is_none}
use Rattle.std.specs.Str.{is_utf8}
use Rattle.cue_sheet.specs.declared.command.Command.{Command}
use Rattle.cue_sheet.specs.declared.command.Command.TheVariants.{Unread, File, Track, Index, Pregap, Postgap as PostgapLine}
use Rattle.cue_sheet.specs.declared.fail.CueKind.{CueKind}
use Rattle.cue_sheet.specs.declared.fail.CueKind.TheVariants.{UnknownWord, BadQuote, NameNotText, NotWave, TooManyFiles, NoFile, BadNumber, DataTrack, TrackOrder, NoTrack, IndexOrder, BadTime, NoIndex01, LatePregap, Postgap, NoTracks}
use Rattle.cue_sheet.specs.declared.fail.CueFail.{CueFail}
use Rattle.cue_sheet.specs.declared.fail.CueFail.TheVariants.{Refused, Oom}
use Rattle.cue_sheet.specs.declared.sheet.CueTrack.{CueTrack}
use Rattle.cue_sheet.specs.declared.sheet.Cue.{Cue}
use Rattle.cue_sheet.specs.Lines.{without_mark, lines_of, without_return, trim_start, trim_end, word_of, after_word}
use Rattle.cue_sheet.specs.Parts.{same_word, label_of, time_of, name_of}

-- what a sheet says
pub record Sheet : Type 0 where
  pub files : List (List ℕ)
  pub tracks : List CueTrack
  pub pregap : ℕ

-- the line with which a sheet is refused, or 0 for its end, and why
pub record RefusedLine : Type 0 where
  pub line : ℕ
  pub kind : CueKind

-- ---- what was read so far

-- The names of the FILE lines. The tracks that have their INDEX 01. The number of the last TRACK line, which is how many there were. The number of the last
-- INDEX line of that track. The time of the last INDEX line in the last file, or 0. The time of the PREGAP line.
pub record State : Type 0 where
  pub files : List (List ℕ)
  pub tracks : List CueTrack
  pub number : ℕ
  pub index : Option ℕ
  pub time : ℕ
  pub pregap : Option ℕ

abbrev pub nothing_read : State
nothing_read = record { files = []; tracks = []; number = 0; index = None; time = 0; pregap = None }

abbrev pub has_file : State → Bool
has_file state = not (length state.files == 0)

abbrev pub has_track : State → Bool
has_track state = not (state.number == 0)

-- each track so far has its INDEX 01
abbrev pub is_complete : State → Bool
is_complete state = length state.tracks == state.number

-- ---- the checks of a line

-- a test, and what comes where it holds
unfoldable pub line_check : {T : Type 0} → Bool → CueKind → Result T CueKind → Result T CueKind
line_check holds kind next = if holds then next else Err kind

-- a part that has to be there, and what comes where it is
unfoldable pub part : {A T : Type 0} → Option A → CueKind → (A → Result T CueKind) → Result T CueKind
part None kind next = Err kind
part (Some found) kind next = next found

-- ---- the commands, each with the rest of its line

unfoldable pub file_reading : State → List ℕ → Result State CueKind
file_reading state text =
    part (name_of text) BadQuote (λ named.
    line_check (is_utf8 named.name) NameNotText (
    line_check (same_word (trim_end (trim_start named.rest)) (codes "WAVE")) NotWave (
    line_check (nat_lt (length state.files) 100) TooManyFiles (
    Ok record state { files = state.files ++ named.name ∷ []; time = 0 }))))

unfoldable pub track_reading : State → List ℕ → Result State CueKind
track_reading state text =
    line_check (has_file state) NoFile (
    part (label_of (word_of text)) BadNumber (λ number.
    line_check (same_word (trim_end (after_word text)) (codes "AUDIO")) DataTrack (
    line_check (number == state.number + 1) TrackOrder (
    line_check (is_complete state) NoIndex01 (
    Ok record state { number = number; index = None })))))

-- the first INDEX of a track is 00 or 01, and each further one is one more
abbrev pub follows : Option ℕ → ℕ → Bool
follows None number = nat_le number 1
follows (Some before) number = number == before + 1

-- INDEX 01 says where its track begins
abbrev pub with_start : State → ℕ → ℕ → List CueTrack
with_start state number time =
    if number == 1 then state.tracks ++ record { file = length state.files - 1; index01 = time } ∷ [] else state.tracks

unfoldable pub index_reading : State → List ℕ → Result State CueKind
index_reading state text =
    line_check (has_track state) NoTrack (
    part (label_of (word_of text)) BadNumber (λ number.
    part (time_of (trim_end (after_word text))) BadTime (λ time.
    line_check (follows state.index number && nat_le state.time time) IndexOrder (
    Ok record state { index = Some number; time = time; tracks = with_start state number time }))))

-- a pregap stands once, in the first track, before its INDEX 01
abbrev pub may_have_pregap : State → Bool
may_have_pregap state = state.number == 1 && length state.tracks == 0 && is_none state.pregap

unfoldable pub pregap_reading : State → List ℕ → Result State CueKind
pregap_reading state text =
    line_check (has_track state) NoTrack (
    line_check (may_have_pregap state) LatePregap (
    part (time_of (trim_end text)) BadTime (λ time.
    Ok record state { pregap = Some time })))

-- ---- the lines

-- the commands of which the rest is unread
unfoldable pub is_unread : List ℕ → Bool
is_unread word =
    same_word word (codes "REM") || same_word word (codes "TITLE") || same_word word (codes "PERFORMER") || same_word word (codes "SONGWRITER")
    || same_word word (codes "CATALOG") || same_word word (codes "ISRC") || same_word word (codes "FLAGS") || same_word word (codes "CDTEXTFILE")

unfoldable pub command_of : List ℕ → Option Command
command_of word =
    if is_unread word then Some Unread
    else if same_word word (codes "FILE") then Some File
    else if same_word word (codes "TRACK") then Some Track
    else if same_word word (codes "INDEX") then Some Index
    else if same_word word (codes "PREGAP") then Some Pregap
    else if same_word word (codes "POSTGAP") then Some PostgapLine
    else None

-- what a command says with the rest of its line
abbrev pub rest_reading : Command → State → List ℕ → Result State CueKind
rest_reading Unread state text = Ok state
rest_reading File state text = file_reading state text
rest_reading Track state text = track_reading state text
rest_reading Index state text = index_reading state text
rest_reading Pregap state text = pregap_reading state text
rest_reading PostgapLine state text = Err Postgap

-- a line from its first word on, if it has one
unfoldable pub words_reading : State → List ℕ → Result State CueKind
words_reading state text =
    if length text == 0 then Ok state
    else part (command_of (word_of text)) UnknownWord (λ command. rest_reading command state (after_word text))

unfoldable pub line_reading : State → List ℕ → Result State CueKind
line_reading state line = words_reading state (trim_start (without_return line))

-- ---- the whole

-- at the end of a sheet
unfoldable pub sheet_end : State → Result Sheet CueKind
sheet_end state =
    line_check (has_track state) NoTracks (
    line_check (is_complete state) NoIndex01 (
    Ok record { files = state.files; tracks = state.tracks; pregap = unwrap_or state.pregap 0 }))

-- what comes after a line, or the refusal of that line
abbrev pub after_line : {A B : Type 0} → ℕ → Result A CueKind → (A → Result B RefusedLine) → Result B RefusedLine
after_line line (Ok read) next = next read
after_line line (Err kind) next = Err record { line = line; kind = kind }

-- the lines from the one with this number on
unfoldable pub lines_reading : ℕ → State → List (List ℕ) → Result Sheet RefusedLine
lines_reading line state [] = after_line 0 (sheet_end state) Ok
lines_reading line state (first ∷ others) = after_line line (line_reading state first) (λ next. lines_reading (line + 1) next others)

-- the sheet that a text is, or the first line with which it is refused
unfoldable pub sheet_reading : List ℕ → Result Sheet RefusedLine
sheet_reading text = lines_reading 1 nothing_read (lines_of (without_mark text))

-- ---- what a call answers

abbrev pub sheet_of : Cue → Sheet
sheet_of cue = record { files = cue.files; tracks = cue.tracks; pregap = cue.pregap }

-- exactly what the text is read as, or want of memory
abbrev pub ReadsSheet : Result Cue CueFail → Result Sheet RefusedLine → Type 0
ReadsSheet (Ok cue) reading = reading ≡ Ok (sheet_of cue)
ReadsSheet (Err (Refused line kind)) reading = reading ≡ Err record { line = line; kind = kind }
ReadsSheet (Err Oom) reading = Unit {0}
