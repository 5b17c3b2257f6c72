-- What a crash may leave while a command runs.
use Rattle.std.specs.Prelude.{◌≡◌, ◌⊎◌}
use Rattle.rip_outside.specs.Files.{Files}
use Rattle.rip_outside.specs.Outputs.{MayStand}
use Rattle.rip_outside.specs.Crashes.{Outlook, WhereForetold, StoresWhole}
use Rattle.engine_steps.specs.Outcome.{Outcome}

-- All is as before; or some first outputs of the outcome stand, the next one is as before or whole, and every other name but a part
-- is as before.
abbrev pub CrashLeaves : (Outcome → Type 0) → Files → Files → Type 0
CrashLeaves is old left = (left ≡ old) ⊎ ((wanted : Outcome) × is wanted × MayStand wanted.outputs old left)

-- On a settled shelf a crash at any moment since the start leaves the files so, by the outcome over the files that there were. Once all
-- has gone well, the shelf is settled: a crash leaves just what is held then.
abbrev pub CrashSafe : (Files → Outcome → Type 0) → Type 0 → Outlook → Outlook → Type 0
CrashSafe is went_well before after = WhereForetold (StoresWhole (λ old left. CrashLeaves (is old) old left) went_well) before after
