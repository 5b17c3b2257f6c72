-- A run of `batch`: which discs ran, what went out, and what is left, also after a stop at any moment.
use Rattle.std.specs.Prelude.{◌≡◌, ◌≢◌, ◌⊎◌, ℕ, ◌+◌, ◌^◌, ◌-◌, ◌≤◌, All, Bool, true, false, List, [], ◌∷◌, ◌++◌, filter, length, take, Option, None, Some, IfSome, Result, Ok, Err}
use Rattle.std.specs.Option.{option_to_list}
use Rattle.rip_outside.specs.Causes.{IsReadCall, NoneFell, Rose}
use Rattle.rip_outside.specs.Crashes.{Outlook, Rests, StoresWhole, WhereForetold}
use Rattle.rip_outside.specs.Files.{Files, bytes_at}
use Rattle.rip_outside.specs.Outputs.{after_outputs}
use Rattle.rip_outside.specs.declared.fault.ShelfCall.{ShelfCall}
use Rattle.rip_outside.specs.declared.fault.ShelfCall.TheVariants.{Size, ReadAt, Make, Append, Sync, Rename, List as ListCall}
use Rattle.rip_words.specs.Command.{command_reading}
use Rattle.rip_report.specs.Texts.{disc_part, exit_number, read_fault_line, refusal_line}
use Rattle.rip_report.specs.declared.status.Status.{Status}
use Rattle.rip_report.specs.declared.status.Status.TheVariants.{ReadFault, SinkFault, WantOfMemory, WriteFault}
use Rattle.engine_steps.specs.Crashing.{CrashLeaves}
use Rattle.engine_steps.specs.Outcome.{Outcome}
use Rattle.engine_steps.specs.Steps.{IsAnswered, IsStepRefusal}
use Rattle.engine_steps.specs.declared.steps.Answer.{Answer}
use Rattle.rip_commands.specs.Look.{Look}
use Rattle.rip_commands.specs.Outcomes.{IsMostTaken, IsOutcomeOf}
use Rattle.rip_commands.specs.Printing.{Printed, Wrote}
use Rattle.rip_commands.specs.Ran.{NoneRose, Ran, telling}
use Rattle.rip_commands.specs.Seen.{Seen, look_of}
use Rattle.cmd_batch.specs.BatchOutcome.{IsBatchOutcome, batch_status, failed_of, last_line, discs_listed, parts_from}

-- ---- the discs that ran

-- The first of these discs ran in order, each over what the one before left, and told this.
abbrev pub RanInOrder : List (List (List ℕ)) → Look → Look → List Answer → Type 0
RanInOrder discs before after [] = after ≡ before
RanInOrder [] before after (told ∷ others) = ⊥
RanInOrder (words ∷ rest) before after (told ∷ others) = (between : Look) × Ran (command_reading words) before between told × RanInOrder rest between after others

-- what is put after the parts of these discs: the part of the disc that ran next, or the last line where none is left
abbrev pub next_text : List Answer → Option Answer → List ℕ
next_text went (Some told) = disc_part (length went + 1) (exit_number told.status) told.text
next_text went None = last_line went

-- all went out, with the status that the discs' own make
abbrev pub EndsWhole : List Answer → Option Answer → Seen → Seen → Status → Type 0
EndsWhole went next before after status =
    (next ≡ None) × (status ≡ batch_status (failed_of went)) × Wrote (parts_from 1 went ++ last_line went) before.told after.told

-- a put failed: a front part of what was put follows the whole parts before it
abbrev pub EndsInSink : List Answer → Option Answer → Seen → Seen → Status → Type 0
EndsInSink went next before after status =
    (status ≡ SinkFault) × Rose before.sink_faults after.sink_faults × IfSome next (λ told. told.status ≢ WantOfMemory)
    × ((n : ℕ) × Wrote (parts_from 1 went ++ take n (next_text went next)) before.told after.told)

-- memory was wanting, for a disc or for what was to be put: only the whole parts before it went out
abbrev pub EndsWanting : List Answer → Option Answer → Seen → Seen → Status → Type 0
EndsWanting went next before after status = (status ≡ WantOfMemory) × Wrote (parts_from 1 went) before.told after.told

-- What a stop may leave of discs that run over these files: what it may leave of the first; or, once that has come to its outcome, of
-- the others over the files that there are then.
abbrev pub StopLeaves : List (List (List ℕ)) → Files → Files → Type 0
StopLeaves [] files left = left ≡ files
StopLeaves (words ∷ rest) files left =
    CrashLeaves (IsOutcomeOf (command_reading words) files) files left
    ⊎ ((outcome : Outcome) × IsOutcomeOf (command_reading words) files outcome × StopLeaves rest (after_outputs outcome.outputs files) left)

-- These discs ran in order: those whose parts went out whole, and then up to one more.
pub record DiscsRan (discs : List (List (List ℕ))) (before after : Seen) (outlook later : Outlook) (status : Status) : Type 0 where
  pub went : List Answer
  pub next : Option Answer
  pub ran : RanInOrder discs (look_of before) (look_of after) (went ++ option_to_list next)
  -- a part goes out of each disc but one whose memory was wanting
  pub told : All (λ (told : Answer). told.status ≢ WantOfMemory) went
  pub whole : next ≡ None → length went ≡ length discs
  pub ends : EndsWhole went next before after status ⊎ EndsInSink went next before after status ⊎ EndsWanting went next before after status
  -- where none of those ended in a fault: on a settled shelf, what a stop at any moment leaves; and after them all the shelf is settled
  pub survives : All (λ (told : Answer). IsAnswered told.status) went → WhereForetold (StoresWhole (StopLeaves discs) (next ≡ None)) outlook later

-- ---- the list

-- The list was read, which changes nothing that is held and prints nothing, and its discs ran.
pub record ListRan (list : List ℕ) (before after : Seen) (outlook later : Outlook) (status : Status) : Type 0 where
  pub discs : List (List (List ℕ))
  pub read : IfSome before.held (λ files. discs_listed list files ≡ Ok discs)
  pub start : Seen
  pub same : start.held ≡ before.held
  pub none_fell : NoneFell before.faults start.faults
  pub taken : IfSome before.held (λ files. start.taken ≤ before.taken + length (bytes_at list files))
  pub unprinted : (start.told ≡ before.told) × (start.sink_faults ≡ before.sink_faults)
  pub ran : DiscsRan discs start after outlook later status

-- why no list was read: it is refused; or a call that reads failed; or memory was wanting
abbrev pub StopsAtList : List ℕ → Seen → Seen → Answer → Type 0
StopsAtList list before after told =
    (IfSome before.held (λ files. discs_listed list files ≡ Err told.status) × IsStepRefusal told.status × (told.text ≡ refusal_line told.status))
    ⊎ ((call : ShelfCall) × IsReadCall call × Rose (before.faults call) (after.faults call) × (told ≡ telling (ReadFault call) read_fault_line))
    ⊎ (told.status ≡ WantOfMemory)

-- No disc ran, nothing that is held has changed, and why is told.
pub record NoDiscRan (list : List ℕ) (before after : Seen) (outlook later : Outlook) (status : Status) : Type 0 where
  pub same : after.held ≡ before.held
  pub rests : WhereForetold Rests outlook later
  pub none_fell : NoneFell before.faults after.faults
  pub taken : NoneRose (look_of before) (look_of after) → IfSome before.held (λ files. after.taken ≤ before.taken + length (bytes_at list files))
  pub told : Answer
  pub stops : StopsAtList list before after told
  pub printed : Printed told before.told after.told before.sink_faults after.sink_faults status

-- Either no disc ran, or the list's discs ran in order.
abbrev pub BatchRan : List ℕ → Seen → Seen → Outlook → Outlook → Status → Type 0
BatchRan list before after outlook later status = NoDiscRan list before after outlook later status ⊎ ListRan list before after outlook later status

-- ---- what follows

-- Where no call failed and no memory was wanting, the status, the text and the files are those of the outcome.
abbrev pub BatchDecides : List ℕ → Seen → Seen → Status → Type 0
BatchDecides list before after status =
    NoneRose (look_of before) (look_of after) → (Rose before.sink_faults after.sink_faults → ⊥) → status ≢ WantOfMemory →
    IfSome before.held (λ files. (outcome : Outcome) × IsBatchOutcome list files outcome
    × (outcome.status ≡ status) × (after.held ≡ Some (after_outputs outcome.outputs files)) × Wrote outcome.text before.told after.told)

-- A batch never ends in a fault of writing, and in one of reading only where its list wasn't read: then nothing has changed.
pub record OwnFaults (before after : Seen) (status : Status) : Type 0 where
  pub never_writing : (call : ShelfCall) → status ≢ WriteFault call
  pub reading : (call : ShelfCall) → status ≡ ReadFault call →
      IsReadCall call × Rose (before.faults call) (after.faults call) × (after.held ≡ before.held) × Wrote read_fault_line before.told after.told

-- Where the list was read, no put failed and no memory was wanting, every disc ran, whatever calls failed; all parts and the last line
-- went out, and the status is by the parts' numbers.
abbrev pub GoesToTheEnd : List ℕ → Seen → Seen → Status → Type 0
GoesToTheEnd list before after status =
    (Rose before.sink_faults after.sink_faults → ⊥) → status ≢ WantOfMemory → ((call : ShelfCall) → status ≢ ReadFault call) →
    IfSome before.held (λ files. (discs : List (List (List ℕ))) → discs_listed list files ≡ Ok discs →
    (start : Look) × (tolds : List Answer) × RanInOrder discs start (look_of after) tolds × (length tolds ≡ length discs)
    × (status ≡ batch_status (failed_of tolds)) × Wrote (parts_from 1 tolds ++ last_line tolds) before.told after.told)

-- what a stop may leave of the discs of a list, or of a list that is refused
abbrev pub StopLeavesListed : Result (List (List (List ℕ))) Status → Files → Files → Type 0
StopLeavesListed (Err status) files left = left ≡ files
StopLeavesListed (Ok discs) files left = StopLeaves discs files left

-- Where no call of the shelf failed: on a settled shelf, a stop at any moment leaves all that some first discs write, and of the next
-- what a stop of its own may leave; and a batch that isn't ended by a put or for want of memory leaves the shelf settled.
abbrev pub BatchSurvives : List ℕ → Seen → Seen → Outlook → Outlook → Status → Type 0
BatchSurvives list before after outlook later status = NoneRose (look_of before) (look_of after) →
    WhereForetold (StoresWhole (λ old left. StopLeavesListed (discs_listed list old) old left) (IsAnswered status)) outlook later

-- ---- faults, counted

-- all failures of calls that were counted
abbrev pub all_faults : (ShelfCall → ℕ) → ℕ
all_faults faults = faults Size + faults ReadAt + faults Make + faults Append + faults Sync + faults Rename + faults ListCall

abbrev pub is_fault : Status → Bool
is_fault (ReadFault call) = true
is_fault (WriteFault call) = true
is_fault _ = false

-- how many of the discs that told this ended in a fault of the shelf
abbrev pub faulted_of : List Answer → ℕ
faulted_of tolds = length (filter (λ told. is_fault told.status) tolds)

-- No more discs end in a fault of the shelf than the counts rise by in all, unless a count stands at its last value.
abbrev pub FaultsAreCounted : List (List (List ℕ)) → Look → Look → Type 0
FaultsAreCounted discs before after = (tolds : List Answer) → RanInOrder discs before after tolds →
    (all_faults before.faults + faulted_of tolds ≤ all_faults after.faults) ⊎ ((call : ShelfCall) × (2 ^ 64 - 1 ≤ after.faults call))

-- ---- bytes taken

-- the most bytes that these discs take in order, each over what the one before leaves: the sum of their own
abbrev pub IsMostOfDiscs : List (List (List ℕ)) → Files → ℕ → Type 0
IsMostOfDiscs [] files most = most ≡ 0
IsMostOfDiscs (words ∷ rest) files most = (own : ℕ) × (others : ℕ) × (most ≡ own + others) × IsMostTaken (command_reading words) files own
    × ((outcome : Outcome) × IsOutcomeOf (command_reading words) files outcome × IsMostOfDiscs rest (after_outputs outcome.outputs files) others)

-- the same of a list that is refused, or of its discs
abbrev pub IsMostOfListed : Result (List (List (List ℕ))) Status → Files → ℕ → Type 0
IsMostOfListed (Err status) files most = most ≡ 0
IsMostOfListed (Ok discs) files most = IsMostOfDiscs discs files most

-- Where no call of the shelf failed, at most the list's length and the sum of the discs' own bounds are taken.
abbrev pub BatchTakes : List ℕ → Seen → Seen → Type 0
BatchTakes list before after = NoneRose (look_of before) (look_of after) →
    IfSome before.held (λ files. (most : ℕ) → IsMostOfListed (discs_listed list files) files most → after.taken ≤ before.taken + length (bytes_at list files) + most)
