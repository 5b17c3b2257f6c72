-- What the words ask for: one command, or those of a list.
use Rattle.std.specs.Prelude.{ℕ, List, Result, Ok, Err}
use Rattle.rip_outside.specs.Crashes.{Outlook}
use Rattle.rip_words.specs.declared.Command.{Command}
use Rattle.rip_words.specs.declared.Request.{Request}
use Rattle.rip_words.specs.declared.Request.TheVariants.{One, Batch}
use Rattle.rip_report.specs.declared.status.Status.{Status}
use Rattle.engine_steps.specs.declared.steps.Answer.{Answer}
use Rattle.rip_commands.specs.Printing.{Printed}
use Rattle.rip_commands.specs.Ran.{IsTold}
use Rattle.rip_commands.specs.Seen.{Seen, look_of}

-- Where the words are those of one command, or are refused, it holds of their reading.
abbrev pub OfCommand : Result Request ℕ → (Result Command ℕ → Type 0) → Type 0
OfCommand (Ok (One command)) P = P (Ok command)
OfCommand (Ok (Batch list)) P = Unit {0}
OfCommand (Err word) P = P (Err word)

-- Where the words are those of a batch, it holds of its list's name.
abbrev pub OfBatch : Result Request ℕ → (List ℕ → Type 0) → Type 0
OfBatch (Ok (One command)) P = Unit {0}
OfBatch (Ok (Batch list)) P = P list
OfBatch (Err word) P = Unit {0}

-- ---- what inner functions answer

-- one command was done, and what it told was printed
abbrev pub RanOne : Result Command ℕ → Seen → Seen → Outlook → Outlook → Status → Type 0
RanOne read before after outlook later status =
    (told : Answer) × IsTold read (look_of before) (look_of after) outlook later told × Printed told before.told after.told before.sink_faults after.sink_faults status
