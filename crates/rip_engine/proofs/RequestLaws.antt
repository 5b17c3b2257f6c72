-- What holds of one command, or of a batch, by what the words ask for.
use Rattle.std.proofs.Common.{inl, ℕ, List, Result, Ok, Err, refl}
use Rattle.rip_outside.specs.Crashes.{Outlook}
use Rattle.rip_words.specs.declared.Command.{Command}
use Rattle.rip_words.specs.declared.Request.{Request}
use Rattle.rip_words.specs.declared.Request.TheVariants.{One, Batch}
use Rattle.rip_report.specs.declared.status.Status.TheVariants.{WantOfMemory}
use Rattle.rip_commands.specs.Ran.{wanting}
use Rattle.rip_commands.specs.Seen.{Seen, look_of}
use Rattle.rip_commands.proofs.RanLaws.{told_wanting}
use Rattle.cmd_batch.specs.Batch.{BatchRan}
use Rattle.cmd_batch.proofs.ListLaws.{none_for_want}
use Rattle.rip_engine.specs.Requests.{OfBatch, OfCommand, RanOne}

pub of_command : (asked : Result Request ℕ) (P Q : Result Command ℕ → Type 0) → ((read : Result Command ℕ) → P read → Q read) → OfCommand asked P → OfCommand asked Q
of_command (Ok (One command)) P Q step p = step (Ok command) p
of_command (Ok (Batch list)) P Q step p = tt
of_command (Err word) P Q step p = step (Err word) p

pub of_batch : (asked : Result Request ℕ) (P Q : List ℕ → Type 0) → ((list : List ℕ) → P list → Q list) → OfBatch asked P → OfBatch asked Q
of_batch (Ok (One command)) P Q step p = tt
of_batch (Ok (Batch list)) P Q step p = step list p
of_batch (Err word) P Q step p = tt

-- ---- words that weren't read for want of memory

ran_wanting : (read : Result Command ℕ) (before : Seen) (outlook : Outlook) → RanOne read before before outlook outlook WantOfMemory
ran_wanting read before outlook = (wanting, told_wanting read (look_of before) outlook wanting refl, inl (refl, refl, refl))

pub one_wanting : (asked : Result Request ℕ) (before : Seen) (outlook : Outlook) → OfCommand asked (λ read. RanOne read before before outlook outlook WantOfMemory)
one_wanting (Ok (One command)) before outlook = ran_wanting (Ok command) before outlook
one_wanting (Ok (Batch list)) before outlook = tt
one_wanting (Err word) before outlook = ran_wanting (Err word) before outlook

pub batch_wanting : (asked : Result Request ℕ) (before : Seen) (outlook : Outlook) → OfBatch asked (λ list. BatchRan list before before outlook outlook WantOfMemory)
batch_wanting (Ok (One command)) before outlook = tt
batch_wanting (Ok (Batch list)) before outlook = inl (none_for_want list before outlook)
batch_wanting (Err word) before outlook = tt
