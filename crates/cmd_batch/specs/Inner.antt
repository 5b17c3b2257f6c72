-- What inner functions answer.
use Rattle.std.specs.Prelude.{◌≡◌, ◌≢◌, ◌⊎◌, ◌≤◌, ℕ, Bool, List, take, Option, Result, Ok, Err}
use Rattle.rip_outside.specs.Causes.{Rose}
use Rattle.rip_outside.specs.Crashes.{Outlook}
use Rattle.rip_words.specs.Command.{command_reading}
use Rattle.rip_report.specs.Texts.{batch_line, disc_part, exit_number}
use Rattle.rip_report.specs.declared.status.Status.{Status}
use Rattle.rip_report.specs.declared.status.Status.TheVariants.{SinkFault, WantOfMemory}
use Rattle.engine_steps.specs.Crashing.{CrashSafe}
use Rattle.engine_steps.specs.Steps.{IsAnswered}
use Rattle.engine_steps.specs.declared.steps.Answer.{Answer}
use Rattle.rip_commands.specs.Outcomes.{IsOutcomeOf}
use Rattle.rip_commands.specs.Printing.{Wrote}
use Rattle.rip_commands.specs.Ran.{Ran}
use Rattle.rip_commands.specs.Seen.{Seen, look_of}
use Rattle.cmd_batch.specs.BatchOutcome.{batch_status, is_done}

-- the part of the disc with this number
abbrev pub part_of_disc : ℕ → Answer → List ℕ
part_of_disc disc told = disc_part disc (exit_number told.status) told.text

-- The part went out; or the sink failed in it; or memory was wanting, and nothing went out.
abbrev pub PutsPart : ℕ → Answer → Option (List ℕ) → Option (List ℕ) → ℕ → ℕ → Result (Unit {0}) Status → Type 0
PutsPart disc told old new before now (Ok done) = (told.status ≢ WantOfMemory) × Wrote (part_of_disc disc told) old new
PutsPart disc told old new before now (Err status) =
    ((status ≡ SinkFault) × (told.status ≢ WantOfMemory) × Rose before now × ((n : ℕ) × Wrote (take n (part_of_disc disc told)) old new))
    ⊎ ((status ≡ WantOfMemory) × (new ≡ old))

-- The last line went out; or the sink failed in it; or memory was wanting, and nothing went out.
abbrev pub PutsLast : ℕ → ℕ → Option (List ℕ) → Option (List ℕ) → ℕ → ℕ → Status → Type 0
PutsLast discs failed old new before now status =
    ((status ≡ batch_status failed) × Wrote (batch_line discs failed) old new)
    ⊎ ((status ≡ SinkFault) × Rose before now × ((n : ℕ) × Wrote (take n (batch_line discs failed)) old new))
    ⊎ ((status ≡ WantOfMemory) × (new ≡ old))

-- these words were done, and a stop leaves of that what it may
abbrev pub RanSafely : List (List ℕ) → Seen → Seen → Outlook → Outlook → Answer → Type 0
RanSafely words before after outlook later told =
    Ran (command_reading words) (look_of before) (look_of after) told × CrashSafe (IsOutcomeOf (command_reading words)) (IsAnswered told.status) outlook later

-- The disc with this number ran, and its part went out; or the batch ends.
abbrev pub DiscRan : ℕ → List (List ℕ) → Seen → Seen → Outlook → Outlook → Result Bool Status → Type 0
DiscRan disc words before after outlook later (Ok done) =
    (told : Answer) × RanSafely words before after outlook later told × (before.sink_faults ≤ after.sink_faults)
    × PutsPart disc told before.told after.told before.sink_faults after.sink_faults (Ok tt) × (done ≡ is_done told.status)
DiscRan disc words before after outlook later (Err status) =
    (told : Answer) × RanSafely words before after outlook later told × PutsPart disc told before.told after.told before.sink_faults after.sink_faults (Err status)
