use Rattle.std.proofs.Common.{◌∙◌, ◌*◌, arith, refl, sym}
use Rattle.rip_outside.proofs.FilesLaws.{when_told}
use Rattle.rip_inputs.specs.Opening.{lengths_of}
use Rattle.store_upkeep.specs.Entries.{entries_in}
use Rattle.engine_steps.proofs.CrashingLaws.{safe_after, safe_rests}
use Rattle.engine_steps.proofs.TakingLaws.{more_so_far, none_so_far, takes_last}
use Rattle.cmd_merge.specs.MergeOutcome.{IsMergeOutcome, merged_names}
use Rattle.cmd_merge.proofs.PlanLaws.{entries_within}
use Rattle.cmd_merge.proofs.merge.Goals as goal

pub returns-in_err-plan-clause-crashes : goal.returns-in_err-plan-clause-crashes
returns-in_err-plan-clause-crashes g c = safe_rests _ _ _ _ c.plan_store.ensures.only.crashes

pub carry_out-requires-clause-plan : goal.carry_out-requires-clause-plan
carry_out-requires-clause-plan g c = λ files told.
    when_told (g.F.Shelf.held c.args.shelf.now) _ c.in_ok-plan.ensures.plan files (sym c.plan_store.ensures.only.same ∙ told)

pub returns-clause-leaves : goal.returns-clause-leaves
returns-clause-leaves g c = rw c.plan_store.ensures.only.same at c.carry_out.ensures.leaves

pub returns-clause-crashes : goal.returns-clause-crashes
returns-clause-crashes g c = safe_after (IsMergeOutcome c.args.from.now c.args.to.now) _ _ _ _ c.plan_store.ensures.only.crashes c.carry_out.ensures.crashes

pub returns-clause-taken : goal.returns-clause-taken
returns-clause-taken g c =
    let h0 = g.F.Shelf.held c.args.shelf.now in
    let from = c.args.from.now in
    let to = c.args.to.now in
    takes_last h0 (g.F.Shelf.held c.plan_store.new.shelf) (λ files. lengths_of (merged_names from to files) files) (λ files. lengths_of (entries_in from files) files) (λ files. 3 * lengths_of (merged_names from to files) files) _ _ _
    c.carry_out.result c.plan_store.ensures.only.same
    (more_so_far h0 h0 (λ _. 0) (λ files. lengths_of (merged_names from to files) files) (λ files. lengths_of (merged_names from to files) files) _ _ _ c.plan_store.result c.in_ok-plan.plan c.in_ok-plan.was refl
    (none_so_far h0 (g.F.Shelf.taken c.args.shelf.now)) c.plan_store.ensures.taken (λ files told. omega arith))
    c.carry_out.ensures.taken (λ files told. let within = entries_within from to files in omega arith)
