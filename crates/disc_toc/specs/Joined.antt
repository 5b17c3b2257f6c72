-- The layout of the files of a cue sheet, one after the other.
use Rattle.std.specs.Prelude.{◌≡◌, ℕ, ◌+◌, ◌/◌, ◌%◌, ◌==◌, ◌≤◌, Bool, true, nat_lt, nat_le, List, [], ◌∷◌, take, map, slice_index, sum_by, All, Option, None, Some, Result, Ok, Err, if◌then◌else◌}
use Rattle.rip_basics.specs.Disc.{most_sectors, sector_words}
use Rattle.cue_sheet.specs.declared.sheet.CueTrack.{CueTrack}
use Rattle.cue_sheet.specs.Reading.{Sheet}
use Rattle.disc_toc.specs.declared.reading.LayoutKind.{LayoutKind}
use Rattle.disc_toc.specs.declared.reading.LayoutKind.TheVariants.{NotWholeSectors, IndexPastEnd, StartOrder, TooLong}
use Rattle.disc_toc.specs.Toc.{Toc}

-- a sector has 1,176 words
abbrev pub file_sectors : ℕ → ℕ
file_sectors words = words / sector_words

-- the files' sectors together
unfoldable pub sectors_in : List ℕ → ℕ
sectors_in words = sum_by file_sectors words

-- as many words as a file of a disc may have
abbrev pub AreShort : List ℕ → Type 0
AreShort words = All (λ count. count ≤ 2147483647) words

-- the first file that is no whole number of sectors, counted from this number on
unfoldable pub broken_file : ℕ → List ℕ → Option ℕ
broken_file file [] = None
broken_file file (words ∷ later) = if words % sector_words == 0 then broken_file (file + 1) later else Some file

-- a track starts with its INDEX 01, after all earlier files
unfoldable pub start_of : List ℕ → CueTrack → ℕ
start_of words track = sectors_in (take track.file words) + track.index01

abbrev pub is_past_end : List ℕ → CueTrack → Bool
is_past_end words track = nat_le (file_sectors (slice_index words track.file)) track.index01

-- a start is above that of the track before, if there is one
abbrev pub rises_above : Option ℕ → ℕ → Bool
rises_above None start = true
rises_above (Some before) start = nat_lt before start

-- the first fault of the tracks from the one with this number on, after a track that starts there
unfoldable pub track_fault : List ℕ → ℕ → Option ℕ → List CueTrack → Option LayoutKind
track_fault words number before [] = None
track_fault words number before (track ∷ later) =
    if is_past_end words track then Some (IndexPastEnd number)
    else if rises_above before (start_of words track) then track_fault words (number + 1) (Some (start_of words track)) later
    else Some (StartOrder number)

-- what comes where there is no such fault
unfoldable pub unless : Option LayoutKind → Result Toc LayoutKind → Result Toc LayoutKind
unless None reading = reading
unless (Some kind) reading = Err kind

abbrev pub option_kind : Option ℕ → Option LayoutKind
option_kind None = None
option_kind (Some file) = Some (NotWholeSectors file)

abbrev pub joined_toc : Sheet → List ℕ → Toc
joined_toc sheet words = record { pregap = sheet.pregap; starts = map (start_of words) sheet.tracks; sectors = sectors_in words }

-- The layout of a sheet whose files have so many words, or the first fault: of the files, of the tracks, or that there is more than a disc has.
unfoldable pub layout_reading : Sheet → List ℕ → Result Toc LayoutKind
layout_reading sheet words =
    unless (option_kind (broken_file 1 words)) (
    unless (track_fault words 1 None sheet.tracks) (
    if nat_lt most_sectors (sheet.pregap + sectors_in words) then Err (TooLong (sectors_in words)) else Ok (joined_toc sheet words)))

-- a sheet of one file with one track that begins with it
abbrev pub sole_sheet : List ℕ → Sheet
sole_sheet name = record { files = name ∷ []; tracks = record { file = 0; index01 = 0 } ∷ []; pregap = 0 }

-- ---- the code's own: functions inside the crate say it of their steps, and no public contract does

-- a sheet's files and tracks have no fault, and all of it is this many sectors, or else what the first fault is
abbrev pub SectorsRead : Result ℕ LayoutKind → Sheet → List ℕ → Type 0
SectorsRead (Ok sectors) sheet words = (layout_reading sheet words ≡ Ok (joined_toc sheet words)) × (sectors ≡ sectors_in words)
SectorsRead (Err kind) sheet words = layout_reading sheet words ≡ Err kind
