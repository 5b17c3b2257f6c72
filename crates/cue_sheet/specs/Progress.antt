-- What was read of a sheet so far, as the code keeps it.
-- The code's own: functions inside the crate say it of their steps, and no public contract does.
use Rattle.std.specs.Prelude.{◌≡◌, ℕ, zero, suc, ◌+◌, ◌⊎◌, ◌<◌, ◌≤◌, length, All, AllPairs, Option, None, Some, IfSome, Result, Ok, Err}
use Rattle.cue_sheet.specs.declared.fail.CueKind.{CueKind}
use Rattle.cue_sheet.specs.declared.fail.LineFail.{LineFail}
use Rattle.cue_sheet.specs.declared.fail.LineFail.TheVariants.{Refused, Oom}
use Rattle.cue_sheet.specs.declared.progress.Progress.{Progress}
use Rattle.cue_sheet.specs.Sheet.{IsTime, IsPlaced}
use Rattle.cue_sheet.specs.Reading.{State}

abbrev pub state_of : Progress → State
state_of progress = record {
  files = progress.files.items;
  tracks = progress.tracks.items;
  number = progress.number;
  index = progress.index;
  time = progress.time;
  pregap = progress.pregap;
}

-- all tracks but the last have their INDEX 01, and the last one too once an index of it is 01 or more
abbrev pub IsCounted : Option ℕ → ℕ → ℕ → Type 0
IsCounted None number tracks = (number ≡ tracks + 1) ⊎ ((number ≡ 0) × (tracks ≡ 0))
IsCounted (Some zero) number tracks = number ≡ tracks + 1
IsCounted (Some (suc before)) number tracks = number ≡ tracks

-- what holds of a sheet after each of its lines
pub record IsSound (state : State) : Type 0 where
  pub few_files : length state.files ≤ 100
  pub file_first : 0 < state.number → 0 < length state.files
  pub few : state.number ≤ 99
  pub labelled : IfSome state.index (λ index. index ≤ 99)
  pub counted : IsCounted state.index state.number (length state.tracks)
  pub placed : All (IsPlaced (length state.files)) state.tracks
  pub in_order : AllPairs (λ earlier later. earlier.file ≤ later.file) state.tracks
  pub timed : IsTime state.time
  pub pregap_timed : IfSome state.pregap IsTime

-- a line is read exactly as it says
abbrev pub Steps : {T : Type 0} → Result T CueKind → Result State CueKind → State → Type 0
Steps (Ok done) reading now = reading ≡ Ok now
Steps (Err kind) reading now = reading ≡ Err kind

-- the same, or memory was wanting
abbrev pub StepsOrWants : {T : Type 0} → Result T LineFail → Result State CueKind → State → Type 0
StepsOrWants (Ok done) reading now = reading ≡ Ok now
StepsOrWants (Err (Refused kind)) reading now = reading ≡ Err kind
StepsOrWants (Err Oom) reading now = Unit {0}
