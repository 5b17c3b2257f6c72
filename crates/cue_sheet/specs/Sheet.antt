-- What makes a sheet.
use Rattle.std.specs.Prelude.{ℕ, ◌<◌, ◌≤◌, List, length, All, AllPairs}
use Rattle.cue_sheet.specs.declared.sheet.CueTrack.{CueTrack}

-- times of three digits of minutes: below 1,000 minutes of 60 seconds of 75 sectors
abbrev pub IsTime : ℕ → Type 0
IsTime sectors = sectors < 4500000

-- a track stands in one of so many files
pub record IsPlaced (files : ℕ) (track : CueTrack) : Type 0 where
  pub inside : track.file < files
  pub timed : IsTime track.index01

-- 1 to 100 files, and 1 to 99 tracks that stand in them in order
pub record IsSheet (files : List (List ℕ)) (tracks : List CueTrack) (pregap : ℕ) : Type 0 where
  pub some_files : 0 < length files
  pub few_files : length files ≤ 100
  pub some_tracks : 0 < length tracks
  pub few_tracks : length tracks ≤ 99
  pub placed : All (IsPlaced (length files)) tracks
  pub in_order : AllPairs (λ earlier later. earlier.file ≤ later.file) tracks
  pub timed : IsTime pregap
