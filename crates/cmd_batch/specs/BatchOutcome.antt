-- What `batch` comes to: its discs, one after another.
use Rattle.std.specs.Prelude.{◌≡◌, ℕ, ◌==◌, Bool, true, false, not, List, [], ◌∷◌, ◌++◌, filter, flat_map, length, map, nat_le, Option, None, Some, Result, Ok, Err, if◌then◌else◌}
use Rattle.std.specs.List.{enumerate_from}
use Rattle.std.specs.FinMap.{get}
use Rattle.rip_outside.specs.Files.{Files}
use Rattle.rip_outside.specs.Outputs.{after_outputs}
use Rattle.rip_words.specs.Command.{command_reading}
use Rattle.batch_list.specs.Reading.{list_reading}
use Rattle.batch_list.specs.declared.fail.ListKind.{ListKind}
use Rattle.batch_list.specs.declared.fail.ListKind.TheVariants.{TooLong}
use Rattle.rip_report.specs.Texts.{batch_line, disc_part, exit_number}
use Rattle.rip_report.specs.declared.status.Status.{Status}
use Rattle.rip_report.specs.declared.status.Status.TheVariants.{BatchFailed, Done, ListRefused, Missing}
use Rattle.engine_steps.specs.Outcome.{Outcome, Then}
use Rattle.engine_steps.specs.declared.steps.Answer.{Answer}
use Rattle.rip_commands.specs.Outcomes.{IsOutcomeOf}
use Rattle.rip_commands.specs.Ran.{telling}

-- ---- the list

-- what a list is read as
abbrev pub list_read : Result (List (List (List ℕ))) ListKind → Result (List (List (List ℕ))) Status
list_read (Ok discs) = Ok discs
list_read (Err kind) = Err (ListRefused kind)

-- a list has at most 1,048,576 bytes
abbrev pub list_found : List ℕ → Option (List ℕ) → Result (List (List (List ℕ))) Status
list_found name None = Err (Missing name)
list_found name (Some bytes) = if nat_le (length bytes) 1048576 then list_read (list_reading bytes) else Err (ListRefused TooLong)

-- the discs of the list under a name: the words of each
abbrev pub discs_listed : List ℕ → Files → Result (List (List (List ℕ))) Status
discs_listed name files = list_found name (get files name)

-- ---- what is told

abbrev pub is_done : Status → Bool
is_done Done = true
is_done _ = false

-- how many of the discs that told this weren't done
abbrev pub failed_of : List Answer → ℕ
failed_of tolds = length (filter (λ told. not (is_done told.status)) tolds)

-- the parts of the discs that told this, of which the first has this number
abbrev pub parts_from : ℕ → List Answer → List ℕ
parts_from number tolds = flat_map (λ numbered. disc_part numbered.0 (exit_number numbered.1.status) numbered.1.text) (enumerate_from number tolds)

-- the last line, once all discs told this
abbrev pub last_line : List Answer → List ℕ
last_line tolds = batch_line (length tolds) (failed_of tolds)

abbrev pub batch_status : ℕ → Status
batch_status failed = if failed == 0 then Done else BatchFailed failed

-- ---- the outcome

-- the outcomes of the discs, in order, each over the files that the one before leaves
abbrev pub AreOutcomes : List (List (List ℕ)) → Files → List Outcome → Type 0
AreOutcomes [] files [] = Unit {0}
AreOutcomes [] files (outcome ∷ others) = ⊥
AreOutcomes (words ∷ rest) files [] = ⊥
AreOutcomes (words ∷ rest) files (outcome ∷ others) = IsOutcomeOf (command_reading words) files outcome × AreOutcomes rest (after_outputs outcome.outputs files) others

-- what is told of discs with these outcomes
abbrev pub answers_of : List Outcome → List Answer
answers_of outcomes = map (λ outcome. telling outcome.status outcome.text) outcomes

-- the discs' parts and the last line, and what all of them write
abbrev pub batched : List Outcome → Outcome
batched outcomes = record {
  status = batch_status (failed_of (answers_of outcomes));
  text = parts_from 1 (answers_of outcomes) ++ last_line (answers_of outcomes);
  outputs = flat_map (λ outcome. outcome.outputs) outcomes;
}

-- `batch LIST` runs the discs of the list in order.
abbrev pub IsBatchOutcome : List ℕ → Files → Outcome → Type 0
IsBatchOutcome list files outcome =
    Then (discs_listed list files) (λ discs whole. (outcomes : List Outcome) × AreOutcomes discs files outcomes × (whole ≡ batched outcomes)) outcome
