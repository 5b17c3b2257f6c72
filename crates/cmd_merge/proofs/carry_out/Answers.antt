use Rattle.std.proofs.Common.{◌≡◌, ◌∙◌, List, ℕ, ap, arith}
use Rattle.rip_outside.proofs.FilesLaws.{if_told, when_told}
use Rattle.rip_inputs.specs.Opening.{lengths_of}
use Rattle.store_upkeep.specs.Entries.{entries_in}
use Rattle.engine_steps.specs.Outcome.{written}
use Rattle.engine_steps.proofs.CrashingLaws.{safe_weaker}
use Rattle.engine_steps.proofs.Leaving.{leaves_weaker}
use Rattle.engine_steps.proofs.TakingLaws.{takes_after}
use Rattle.cmd_merge.specs.MergeOutcome.{IsMergeOutcome, added_among, fate_of, is_added, merge_outputs, merge_text}
use Rattle.cmd_merge.specs.Planning.{additions}
use Rattle.cmd_merge.proofs.PlanLaws.{additions_planned, lengths_added, text_planned, told_plan}
use Rattle.cmd_merge.proofs.carry_out.Goals as goal

pub write_added-requires-clause-plan : goal.write_added-requires-clause-plan
write_added-requires-clause-plan g c = λ files told.
    c.deref-3.ensures.value ∙ c.keep_additions.ensures ∙ ap additions (c.requires.plan files told) ∙ additions_planned c.args.from.now c.args.to.now files (entries_in c.args.from.now files)

pub returns-clause-leaves : goal.returns-clause-leaves
returns-clause-leaves g c =
    let h0 = g.S.Shelf.held c.args.shelf.now in
    let from = c.args.from.now in
    let to = c.args.to.now in
    let text : List ℕ = c.in_ok-text.text in
    if_told h0 _ (λ files told.
    let text_is : text ≡ merge_text from to files = c.in_ok-text.ensures ∙ ap told_plan (c.deref.ensures.value ∙ c.requires.plan files told) ∙ text_planned from to files (entries_in from files) in
    leaves_weaker (λ o. o ≡ written text (merge_outputs from to files)) (IsMergeOutcome from to files) files _ _ (λ o is. is ∙ ap (λ (t : List ℕ). written t (merge_outputs from to files)) text_is) (when_told h0 _ c.write_added.ensures.leaves files told))

pub returns-clause-crashes : goal.returns-clause-crashes
returns-clause-crashes g c =
    let tells = g.met.S.Shelf.tells_held in
    let h0 = g.S.Shelf.held c.args.shelf.now in
    let from = c.args.from.now in
    let to = c.args.to.now in
    let text : List ℕ = c.in_ok-text.text in
    safe_weaker (λ files o. o ≡ written text (merge_outputs from to files)) (IsMergeOutcome from to) _ h0 (g.S.Shelf.held c.write_added.new.shelf) _ _ (tells c.args.shelf.now) (tells c.write_added.new.shelf)
    (λ files told o is.
    let text_is : text ≡ merge_text from to files = c.in_ok-text.ensures ∙ ap told_plan (c.deref.ensures.value ∙ c.requires.plan files told) ∙ text_planned from to files (entries_in from files) in
    is ∙ ap (λ (t : List ℕ). written t (merge_outputs from to files)) text_is)
    c.write_added.ensures.crashes

pub returns-clause-taken : goal.returns-clause-taken
returns-clause-taken g c =
    let h0 = g.S.Shelf.held c.args.shelf.now in
    let from = c.args.from.now in
    let to = c.args.to.now in
    if_told h0 _ (λ files told.
    let fewer = lengths_added (λ name. is_added (fate_of from to files name)) (entries_in from files) files in
    takes_after 0 (lengths_of (added_among from to files (entries_in from files)) files) (lengths_of (entries_in from files) files) _ _ _ c.write_added.result (omega arith) (omega arith)
    (when_told h0 _ c.write_added.ensures.taken files told))
