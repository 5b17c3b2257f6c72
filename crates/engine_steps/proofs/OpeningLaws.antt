-- What the opening of a rip comes to.
use Rattle.std.proofs.Common.{◌+◌, ◌≤◌, ℕ, Option, None, Some, IfSome, Result, Err, refl}
use Rattle.rip_outside.specs.Files.{Files}
use Rattle.rip_outside.specs.declared.fault.ShelfCall.{ShelfCall}
use Rattle.rip_inputs.specs.Opening.{Opened}
use Rattle.rip_inputs.specs.Telling.{TellsOpening, OpeningHasCause, OpeningTakes, opened_of}
use Rattle.rip_inputs.specs.declared.rip.Rip.{Rip}
use Rattle.rip_inputs.specs.declared.rip.RipFail.{RipFail}
use Rattle.rip_inputs.specs.declared.rip.RipFail.TheVariants.{Missing, CueRefused, WavRefused, LayoutRefused, ReadFault, Oom}
use Rattle.engine_steps.specs.Steps.{Does, ReadsWithCause, Takes, rip_read, rip_stop}

told_fail : (view : Rip → Opened) (fail : RipFail) (reading : Result Opened RipFail) → TellsOpening view (Err fail) reading → Does view (Err (rip_stop fail)) (rip_read reading)
told_fail view (Missing name) reading is = rw is refl
told_fail view (CueRefused line kind) reading is = rw is refl
told_fail view (WavRefused name kind at) reading is = rw is refl
told_fail view (LayoutRefused kind) reading is = rw is refl
told_fail view (ReadFault call) reading is = tt
told_fail view Oom reading is = tt

-- a rip that isn't opened
pub fail_does : (held : Option Files) (fail : RipFail) (reading : Files → Result Opened RipFail) → IfSome held (λ files. TellsOpening (λ rip. opened_of rip files) (Err fail) (reading files))
    → IfSome held (λ files. Does (λ rip. opened_of rip files) (Err (rip_stop fail)) (rip_read (reading files)))
fail_does None fail reading told = tt
fail_does (Some files) fail reading told = told_fail (λ rip. opened_of rip files) fail (reading files) told

pub fail_has_cause : (before now : ShelfCall → ℕ) (fail : RipFail) → OpeningHasCause {T = Rip} before now (Err fail) → ReadsWithCause {T = Rip} before now (Err (rip_stop fail))
fail_has_cause before now (Missing name) cause = tt
fail_has_cause before now (CueRefused line kind) cause = tt
fail_has_cause before now (WavRefused name kind at) cause = tt
fail_has_cause before now (LayoutRefused kind) cause = tt
fail_has_cause before now (ReadFault call) cause = cause
fail_has_cause before now Oom cause = tt

told_takes : (held : Option Files) (most : Files → ℕ) (before now : ℕ) → (before ≤ now) × IfSome held (λ files. now ≤ before + most files) → IfSome held (λ files. now ≤ before + most files)
told_takes held most before now takes = takes.1

none_taken : (held : Option Files) → IfSome held (λ files. Unit {0})
none_taken None = tt
none_taken (Some files) = tt

pub fail_takes : (held : Option Files) (most : Files → ℕ) (before now : ℕ) (fail : RipFail) → OpeningTakes {T = Rip} held most (Err fail) before now
    → IfSome held (λ files. Takes {T = Rip} (most files) (Err (rip_stop fail)) before now)
fail_takes held most before now (Missing name) takes = told_takes held most before now takes
fail_takes held most before now (CueRefused line kind) takes = told_takes held most before now takes
fail_takes held most before now (WavRefused name kind at) takes = told_takes held most before now takes
fail_takes held most before now (LayoutRefused kind) takes = told_takes held most before now takes
fail_takes held most before now (ReadFault call) takes = none_taken held
fail_takes held most before now Oom takes = told_takes held most before now takes
