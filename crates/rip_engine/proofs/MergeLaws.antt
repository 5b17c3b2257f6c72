-- A merge holds both stores, by the outcome.
use Rattle.std.proofs.Common.{◌≡◌, ◌∙◌, ℕ, List, Option, Some, Result, Ok, inl, inr, sym, subst}
use Rattle.rip_outside.specs.Files.{Files}
use Rattle.rip_outside.specs.Outputs.{MayStand, after_outputs}
use Rattle.rip_outside.specs.Crashes.{Outlook, StoresWhole, TellsHeld}
use Rattle.rip_outside.proofs.CrashLaws.{foretold_held}
use Rattle.rip_outside.proofs.FilesLaws.{if_told}
use Rattle.rip_outside.proofs.OutputLaws.{none_stand}
use Rattle.rip_outside.proofs.StoreLaws.{settled_leaves}
use Rattle.rip_words.specs.declared.Command.{Command}
use Rattle.rip_words.specs.declared.Command.TheVariants.{MergeStores}
use Rattle.rip_report.specs.declared.status.Status.{Status}
use Rattle.rip_report.specs.declared.status.Status.TheVariants.{Done}
use Rattle.engine_steps.specs.Crashing.{CrashLeaves, CrashSafe}
use Rattle.engine_steps.specs.Outcome.{Outcome}
use Rattle.engine_steps.specs.Steps.{IsAnswered}
use Rattle.cmd_merge.specs.Holding.{HoldsBoth}
use Rattle.cmd_merge.specs.MergeOutcome.{IsMergeOutcome, merge_outputs}
use Rattle.cmd_merge.proofs.HoldLaws.{holds_both}
use Rattle.rip_commands.specs.Outcomes.{IsOutcomeOf}
use Rattle.rip_engine.specs.Merging.{MergeHoldsBoth, MergeIsSafe, MergeSurvives}
use Rattle.rip_engine.specs.Run.{OutcomeDecides}
use Rattle.rip_commands.specs.Printing.{Wrote}
use Rattle.rip_commands.specs.Seen.{Seen}

pub merges_by : (read : Result Command ℕ) (before after : Seen) (status : Status) → OutcomeDecides read before after status → MergeHoldsBoth read before after status
merges_by read before after status decides from to is ended = if_told before.held _ (λ files told.
    let answered : IsAnswered status = subst IsAnswered (sym ended) tt in
    let o = rw told at (decides answered) in
    let merged : IsMergeOutcome from to files o.0 = subst (λ (r : Result Command ℕ). IsOutcomeOf r files o.0) is o.1 in (
      after_outputs o.0.outputs files,
      o.3,
      subst (λ (w : Outcome). HoldsBoth from to files (after_outputs w.outputs files)) (sym merged) (holds_both from to files),
      subst (λ (w : Outcome). Wrote w.text before.told after.told) merged o.4,
    ))

stands_by : (from to : List ℕ) (files left : Files) → CrashLeaves (IsMergeOutcome from to files) files left → MayStand (merge_outputs from to files) files left
stands_by from to files left (inl same) = subst (MayStand (merge_outputs from to files) files) (sym same) (none_stand (merge_outputs from to files) files)
stands_by from to files left (inr put) = subst (λ (w : Outcome). MayStand w.outputs files left) put.1 put.2

pub survives_by : (read : Result Command ℕ) (status : Status) (h0 h1 : Option Files) (b a : Outlook) → TellsHeld h0 b → TellsHeld h1 a → CrashSafe (IsOutcomeOf read) (IsAnswered status) b a
    → ((from to : List ℕ) (files : Files) → read ≡ Ok (MergeStores from to) → status ≡ Done → h0 ≡ Some files → (now : Files) × (h1 ≡ Some now) × HoldsBoth from to files now) → MergeSurvives read status b a
survives_by read status h0 h1 b a t0 t1 safe holds from to is =
    foretold_held (StoresWhole (λ old left. CrashLeaves (IsOutcomeOf read old) old left) (IsAnswered status)) (MergeIsSafe from to status) h0 h1 b a t0 t1 safe
    (λ old new told0 told1 stores. record {
      moments = λ settled left since. stands_by from to old.files left (subst (λ (r : Result Command ℕ). CrashLeaves (IsOutcomeOf r old.files) old.files left) is (stores.moments settled left since));
      done = λ settled ended left now.
          let found = holds from to old.files is ended told0 in
          let clash : Some found.0 ≡ Some new.files = sym found.1 ∙ told1 in
          let files : found.0 ≡ new.files = cc in
          let same : left ≡ new.files = settled_leaves new (stores.settled settled (subst IsAnswered (sym ended) tt)) left now in
          subst (HoldsBoth from to old.files) (files ∙ sym same) found.2;
    })
