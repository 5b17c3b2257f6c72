-- A list whose discs don't run.
use Rattle.std.proofs.Common.{◌≡◌, inl, inr, ℕ, List, Err, refl, ap, arith}
use Rattle.std.specs.Prelude.{IfSome, length}
use Rattle.rip_outside.specs.Causes.{NoneFell}
use Rattle.rip_outside.specs.Crashes.{Outlook, Rests, WhereForetold}
use Rattle.rip_outside.specs.Files.{bytes_at}
use Rattle.rip_outside.proofs.CrashLaws.{told_rests}
use Rattle.rip_outside.proofs.FilesLaws.{if_told}
use Rattle.rip_report.specs.declared.status.Status.{Status}
use Rattle.rip_report.specs.declared.status.Status.TheVariants.{WantOfMemory}
use Rattle.engine_steps.specs.Steps.{Does, ReadsWithCause, Takes}
use Rattle.engine_steps.specs.declared.steps.Answer.{Answer}
use Rattle.engine_steps.specs.declared.steps.Stop.{Stop}
use Rattle.engine_steps.specs.declared.steps.Stop.TheVariants.{Refused, ReadFault as ReadStop, WriteFault as WriteStop, Oom as WantStop}
use Rattle.rip_commands.specs.Printing.{Printed}
use Rattle.rip_commands.specs.Ran.{TellsOf, wanting}
use Rattle.rip_commands.specs.Seen.{Seen}
use Rattle.cmd_batch.specs.Batch.{NoDiscRan}
use Rattle.cmd_batch.specs.BatchOutcome.{discs_listed}

-- a list that wasn't read
module _ (list : List ℕ) (before after : Seen) (outlook later : Outlook) (told : Answer) (status : Status) where
  pub stopped : (stop : Stop) → after.held ≡ before.held → WhereForetold Rests outlook later → NoneFell before.faults after.faults
      → ReadsWithCause {T = List (List (List ℕ))} before.faults after.faults (Err stop)
      → IfSome before.held (λ files. Does {T = List (List (List ℕ))} (λ discs. discs) (Err stop) (discs_listed list files))
      → IfSome before.held (λ files. Takes {T = List (List (List ℕ))} (length (bytes_at list files)) (Err stop) before.taken after.taken)
      → TellsOf (Err stop) told → Printed told before.told after.told before.sink_faults after.sink_faults status → NoDiscRan list before after outlook later status
  stopped (Refused why) same rests none_fell cause does takes tells printed = record {
    same = same;
    rests = rests;
    none_fell = none_fell;
    taken = λ _. takes;
    told = told;
    stops = elim tells [
      | inl well ↦ inl (rw well (does, cause, refl))
      | inr want ↦ inr (inr (ap (λ (a : Answer). a.status) want))
    ];
    printed = printed;
  }
  stopped (ReadStop call) same rests none_fell cause does takes tells printed = record {
    same = same;
    rests = rests;
    none_fell = none_fell;
    taken = λ none. absurd (none call cause.1);
    told = told;
    stops = inr (inl (call, cause.0, cause.1, tells));
    printed = printed;
  }
  stopped (WriteStop call) same rests none_fell cause does takes tells printed = absurd cause
  stopped WantStop same rests none_fell cause does takes tells printed = record {
    same = same;
    rests = rests;
    none_fell = none_fell;
    taken = λ _. takes;
    told = told;
    stops = inr (inr (ap (λ (a : Answer). a.status) tells));
    printed = printed;
  }

-- nothing was done for want of memory
pub none_for_want : (list : List ℕ) (before : Seen) (outlook : Outlook) → NoDiscRan list before before outlook outlook WantOfMemory
none_for_want list before outlook = record {
  same = refl;
  rests = told_rests outlook;
  none_fell = λ call. omega arith;
  taken = λ _. if_told before.held _ (λ files held. omega arith);
  told = wanting;
  stops = inr (inr refl);
  printed = inl (refl, refl, refl);
}
