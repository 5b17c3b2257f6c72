-- What a command comes to: a status, a text, and the names that it writes with their bytes.
use Rattle.std.specs.Prelude.{◌≡◌, ◌⊎◌, ℕ, List, [], Result, Ok, Err, Option, Some}
use Rattle.rip_outside.specs.Files.{Files}
use Rattle.rip_outside.specs.Outputs.{Output, StandsUpTo, after_outputs}
use Rattle.rip_outside.specs.declared.fault.ShelfCall.TheVariants.{Rename}
use Rattle.rip_report.specs.Texts.{refusal_line}
use Rattle.rip_report.specs.declared.status.Status.{Status}
use Rattle.rip_report.specs.declared.status.Status.TheVariants.{Done}
use Rattle.engine_steps.specs.declared.steps.Answer.{Answer}
use Rattle.engine_steps.specs.declared.steps.Stop.{Stop}
use Rattle.engine_steps.specs.declared.steps.Stop.TheVariants.{Refused, ReadFault as ReadStop, WriteFault as WriteStop, Oom as WantStop}

pub record Outcome : Type 0 where
  pub status : Status
  pub text : List ℕ
  pub outputs : List Output

-- a refusal prints its line
abbrev pub refused : Status → Outcome
refused status = record { status = status; text = refusal_line status; outputs = [] }

-- an end that has a text of its own and writes nothing
abbrev pub answered : Status → List ℕ → Outcome
answered status text = record { status = status; text = text; outputs = [] }

-- success that writes
abbrev pub written : List ℕ → List Output → Outcome
written text outs = record { status = Done; text = text; outputs = outs }

abbrev pub output : List ℕ → List ℕ → Output
output name bytes = record { name = name; bytes = bytes }

-- the first step's refusal, or what comes of what it found
abbrev pub Then : {A : Type 0} → Result A Status → (A → Outcome → Type 0) → Outcome → Type 0
Then (Err status) next outcome = outcome ≡ refused status
Then (Ok found) next outcome = next found outcome

-- the same of a step that is stated as a relation to what it finds or refuses
abbrev pub ThenOf : {A : Type 0} → (Result A Status → Type 0) → (A → Outcome → Type 0) → Outcome → Type 0
ThenOf {A} step next outcome = (found : Result A Status) × step found × Then found next outcome

-- ---- what a command leaves

-- The outcome writes, and the first m of its outputs stand, but not all. The next one's part holds anything, and the next one is as
-- before, or after a failed renaming whole.
abbrev pub Partly : (Outcome → Type 0) → Type 0 → Files → Option Files → Type 0
Partly is renaming old now = (wanted : Outcome) × is wanted × ((m : ℕ) × (new : Files) × (now ≡ Some new) × StandsUpTo wanted.outputs m renaming old new)

-- nothing changed, or the outcome was written in part
abbrev pub LeavesPart : (Outcome → Type 0) → Files → Option Files → Type 0
LeavesPart is old now = (now ≡ Some old) ⊎ Partly is ⊥ old now

-- What the steps of a command leave, by their answer, where the old files are told.
abbrev pub Leaves : (Outcome → Type 0) → Files → Result Answer Stop → Option Files → Type 0
Leaves is old (Ok answer) now = (wanted : Outcome) × is wanted × (wanted.status ≡ answer.status) × (wanted.text ≡ answer.text) × (now ≡ Some (after_outputs wanted.outputs old))
Leaves is old (Err (Refused status)) now = (now ≡ Some old) × is (refused status)
Leaves is old (Err (ReadStop call)) now = LeavesPart is old now
Leaves is old (Err (WriteStop call)) now = Partly is (call ≡ Rename) old now
Leaves is old (Err WantStop) now = LeavesPart is old now
