-- What a run of one command comes to, before it is printed: by the shelf before it and after it, and by what is told.
use Rattle.std.specs.Prelude.{◌≡◌, ◌≢◌, ◌⊎◌, ℕ, ◌+◌, ◌≤◌, List, [], Result, Ok, Err, IfOk, Some, IfSome, ℤ}
use Rattle.std.specs.FinMap.{empty}
use Rattle.rip_outside.specs.Outputs.{after_outputs}
use Rattle.rip_outside.specs.Causes.{NoneFell, Rose, IsReadCall, IsWriteCall}
use Rattle.rip_commands.specs.Look.{Look}
use Rattle.rip_outside.specs.declared.fault.ShelfCall.{ShelfCall}
use Rattle.rip_outside.specs.declared.fault.ShelfCall.TheVariants.{Rename}
use Rattle.engine_steps.specs.Crashing.{CrashSafe}
use Rattle.engine_steps.specs.Steps.{IsAnswered}
use Rattle.engine_steps.specs.Outcome.{LeavesPart, Outcome, Partly, refused}
use Rattle.rip_commands.specs.Outcomes.{IsOutcomeOf, IsMostTaken}
use Rattle.rip_report.specs.Texts.{read_fault_line, refusal_line, write_fault_line}
use Rattle.rip_outside.specs.Crashes.{Outlook}
use Rattle.rip_words.specs.Command.{NamesMayStand}
use Rattle.rip_words.specs.declared.Command.{Command}
use Rattle.rip_words.specs.declared.Command.TheVariants.{Trial}
use Rattle.rip_report.specs.declared.status.Status.{Status}
use Rattle.rip_report.specs.declared.status.Status.TheVariants.{Done, ReadFault, WriteFault, SinkFault, WantOfMemory}
use Rattle.engine_steps.specs.declared.steps.Answer.{Answer}
use Rattle.engine_steps.specs.declared.steps.Stop.{Stop}
use Rattle.rip_commands.specs.declared.FaultLines.{FaultLines}
use Rattle.engine_steps.specs.declared.steps.Stop.TheVariants.{Refused, ReadFault as ReadStop, WriteFault as WriteStop, Oom as WantStop}

-- a command that calls the shelf: any but a trial
abbrev pub UsesShelf : Result Command ℕ → Type 0
UsesShelf (Err word) = ⊥
UsesShelf (Ok (Trial sectors seed shift hits)) = ⊥
UsesShelf (Ok command) = Unit {0}

-- what is asked needs no file: the words are refused, or ask for a trial
abbrev pub NeedsNoFile : Result Command ℕ → Type 0
NeedsNoFile (Err word) = Unit {0}
NeedsNoFile (Ok (Trial sectors seed shift hits)) = Unit {0}
NeedsNoFile (Ok command) = ⊥

-- a trial
abbrev pub IsTrialRead : Result Command ℕ → Type 0
IsTrialRead read = (sectors : ℕ) × (seed : ℕ) × (shift : ℤ) × (hits : ℕ) × (read ≡ Ok (Trial sectors seed shift hits))

-- only such a command meets a fault of a shelf
abbrev pub FaultsOfCommand : {T : Type 0} → Result Command ℕ → Result T Stop → Type 0
FaultsOfCommand read (Err (ReadStop call)) = UsesShelf read
FaultsOfCommand read (Err (WriteStop call)) = UsesShelf read
FaultsOfCommand read _ = Unit {0}

-- no call of the shelf failed
abbrev pub NoneRose : Look → Look → Type 0
NoneRose before now = (call : ShelfCall) → Rose (before.faults call) (now.faults call) → ⊥

-- Nothing changed; or the outcome writes, and the first m of its outputs stand, but not all, and but for the next one's part nothing else changed.
abbrev pub LeavesSome : Result Command ℕ → Look → Look → Type 0
LeavesSome read before now = IfSome before.held (λ files. LeavesPart (IsOutcomeOf read files) files now.held)

-- A fault of reading is that of a command other than a trial, its call is one that reads and its count rose.
pub record ReadFailed (read : Result Command ℕ) (before now : Look) (call : ShelfCall) : Type 0 where
  pub reads : IsReadCall call
  pub rose : Rose (before.faults call) (now.faults call)
  pub asked : UsesShelf read
  pub leaves : LeavesSome read before now

-- A fault of writing comes only where the outcome writes, its call is one that writes and its count rose. The first m outputs stand, but
-- not all; the next one is as before, or after a failed rename holds its bytes; and no other name but its part changed.
pub record WriteFailed (read : Result Command ℕ) (before now : Look) (call : ShelfCall) : Type 0 where
  pub writes : IsWriteCall call
  pub rose : Rose (before.faults call) (now.faults call)
  pub asked : UsesShelf read
  pub leaves : IfSome before.held (λ files. Partly (IsOutcomeOf read files) (call ≡ Rename) files now.held)

-- this text and these files are the outcome's
abbrev pub IsOutcomeText : Result Command ℕ → Look → Look → List ℕ → Type 0
IsOutcomeText read before now text = IfSome before.held (λ files.
    (outcome : Outcome) × IsOutcomeOf read files outcome × (outcome.text ≡ text) × (now.held ≡ Some (after_outputs outcome.outputs files)))

-- What a run of one command comes to, but for its printing: a status and a text, by the shelf before it and after it.
pub record Ran (read : Result Command ℕ) (before now : Look) (told : Answer) : Type 0 where
  -- a status that is neither a fault nor want of memory is the outcome's, with its text and its files
  pub outcome : IsAnswered told.status → IfSome before.held (λ files.
      (outcome : Outcome) × IsOutcomeOf read files outcome × (outcome.status ≡ told.status) × (outcome.text ≡ told.text) × (now.held ≡ Some (after_outputs outcome.outputs files)))
  pub read_fault : (call : ShelfCall) → told.status ≡ ReadFault call → ReadFailed read before now call × (told.text ≡ read_fault_line)
  pub write_fault : (call : ShelfCall) → told.status ≡ WriteFault call → WriteFailed read before now call × (told.text ≡ write_fault_line)
  pub want_of_memory : told.status ≡ WantOfMemory → LeavesSome read before now
  pub no_sink : told.status ≢ SinkFault
  -- nothing that is held changes but where the outcome writes
  pub unwritten : IfSome before.held (λ files. (now.held ≡ Some files) ⊎ ((outcome : Outcome) × IsOutcomeOf read files outcome × (outcome.outputs ≢ [])))
  -- where no call failed, the status is the outcome's or want of memory
  pub completes : NoneRose before now → (told.status ≡ WantOfMemory) ⊎ IfSome before.held (λ files. (outcome : Outcome) × IsOutcomeOf read files outcome × (outcome.status ≡ told.status))
  pub taken : NoneRose before now → IfSome before.held (λ files. (most : ℕ) → IsMostTaken read files most → now.taken ≤ before.taken + most)
  pub later : NoneFell before.faults now.faults
  -- a trial leaves the shelf as it is
  pub trial : IsTrialRead read → now ≡ before

-- ---- what is told

abbrev pub telling : Status → List ℕ → Answer
telling status text = record { status = status; text = text }

-- want of memory tells nothing
abbrev pub wanting : Answer
wanting = telling WantOfMemory []

-- what is told, by what the command came to
abbrev pub TellsOf : Result Answer Stop → Answer → Type 0
TellsOf (Ok answer) told = told ≡ answer
TellsOf (Err (Refused status)) told = (told ≡ telling status (refusal_line status)) ⊎ (told ≡ wanting)
TellsOf (Err (ReadStop call)) told = told ≡ telling (ReadFault call) read_fault_line
TellsOf (Err (WriteStop call)) told = told ≡ telling (WriteFault call) write_fault_line
TellsOf (Err WantStop) told = told ≡ wanting

-- the lines that are told of faults
abbrev pub AreFaultLines : FaultLines → Type 0
AreFaultLines lines = (lines.read ≡ read_fault_line) × (lines.write ≡ write_fault_line)

-- ---- what needs no file

-- an answer or a refusal is an outcome's
abbrev pub Comes : (Outcome → Type 0) → Result Answer Stop → Type 0
Comes is (Ok answer) = (outcome : Outcome) × is outcome × (outcome.status ≡ answer.status) × (outcome.text ≡ answer.text)
Comes is (Err (Refused status)) = is (refused status)
Comes is (Err stop) = Unit {0}

-- what is told where no file is needed is the outcome's, whatever the shelf tells
abbrev pub ToldWithoutFiles : Result Command ℕ → Answer → Type 0
ToldWithoutFiles read told = IsAnswered told.status → NeedsNoFile read →
    (outcome : Outcome) × IsOutcomeOf read empty outcome × (outcome.status ≡ told.status) × (outcome.text ≡ told.text)

-- ---- the words of one command

-- What the words of one command come to but for the printing, by the shelf before and after, and by what a stop may leave of it.
pub record IsTold (read : Result Command ℕ) (before now : Look) (outlook later : Outlook) (told : Answer) : Type 0 where
  pub ran : Ran read before now told
  pub crashes : CrashSafe (IsOutcomeOf read) (IsAnswered told.status) outlook later
  pub no_file : ToldWithoutFiles read told
  pub names : told.status ≡ Done → IfOk read NamesMayStand
