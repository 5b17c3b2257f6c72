use Rattle.std.proofs.Common.{subst, Option, ℕ}
use Rattle.std.specs.FinMap.{get}
use Rattle.rip_outside.proofs.FilesLaws.{if_told, when_told}
use Rattle.store_upkeep.specs.Looking.{IsReadInto}
use Rattle.store_upkeep.proofs.LookLaws.{is_copied, no_file, not_copied}
use Rattle.store_upkeep.proofs.looking.copy_good.Goals as goal

pub returns-in_default-clause-answer : goal.returns-in_default-clause-answer
returns-in_default-clause-answer g c = if_told (g.S.Shelf.held c.args.shelf.now) _ (λ files told.
    no_file c.args.store.now c.args.name.now c.read_first.new.buf (get files c.args.name.now)
    (subst (λ (found : Option ℕ). IsReadInto c.read_first.new.buf (get files c.args.name.now) found) c.in_default.is (when_told (g.S.Shelf.held c.args.shelf.now) _ c.in_ok-size.ensures.answer files told)))

pub returns-in-Ok-true-clause-answer : goal.returns-in-Ok-true-clause-answer
returns-in-Ok-true-clause-answer g c = if_told (g.S.Shelf.held c.args.shelf.now) _ (λ files told.
    is_copied c.args.store.now c.args.name.now c.read_first.new.buf c.in-Some.size c.min-count.result c.in-Ok-true.field-0 c.min-count.ensures (get files c.args.name.now)
    (subst (λ (found : Option ℕ). IsReadInto c.read_first.new.buf (get files c.args.name.now) found) c.in-Some.is (when_told (g.S.Shelf.held c.args.shelf.now) _ c.in_ok-size.ensures.answer files told))
    c.in-Ok-true.ensures c.in-Ok-true.field-0-test)

pub returns-in-Ok-false-clause-answer : goal.returns-in-Ok-false-clause-answer
returns-in-Ok-false-clause-answer g c = if_told (g.S.Shelf.held c.args.shelf.now) _ (λ files told.
    not_copied c.args.store.now c.args.name.now c.read_first.new.buf c.in-Some.size c.min-count.result c.in-Ok-false.field-0 c.min-count.ensures (get files c.args.name.now)
    (subst (λ (found : Option ℕ). IsReadInto c.read_first.new.buf (get files c.args.name.now) found) c.in-Some.is (when_told (g.S.Shelf.held c.args.shelf.now) _ c.in_ok-size.ensures.answer files told))
    c.in-Ok-false.ensures c.in-Ok-false.field-0-test)

pub returns-in-Err-clause-answer : goal.returns-in-Err-clause-answer
returns-in-Err-clause-answer g c = if_told (g.S.Shelf.held c.args.shelf.now) _ (λ files told. tt)
