use Rattle.std.proofs.Common.{◌≡◌, None, rules}
use Rattle.std.specs.Prelude.{All}
use Rattle.std.specs.FinMap.{get}
use Rattle.rip_outside.proofs.FilesLaws.{if_told}
use Rattle.engine_steps.proofs.TakingLaws.{found_told}
use Rattle.engine_outputs.specs.Writing.{none_held}
use Rattle.engine_outputs.proofs.FreeLaws.{each_unheld, if_ok_any}
use Rattle.engine_outputs.proofs.checking.check_outputs.Goals as goal

pub returns-clause-unheld : goal.returns-clause-unheld
returns-clause-unheld g c =
    let h0 = g.S.Shelf.held c.args.shelf.now in
    let outs = c.args.outs.now in
    if_told h0 _ (λ files told.
    if_ok_any c.check_unread.result (All (λ out. get files out ≡ None) outs)
    (each_unheld outs files (found_told h0 (λ _ _. tt) (none_held outs) c.check_unheld.result c.in_ok-check_unheld.field-0 (search rules) c.check_unheld.ensures.answer files told)))
