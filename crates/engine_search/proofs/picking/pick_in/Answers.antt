use Rattle.std.proofs.Common.{◌≡◌, ◌*◌, ℕ, ℤ, Option, Some, subst, sym, w32, to_z, of_z}
use Rattle.std.specs.Prelude.{IfSome}
use Rattle.column_map.specs.Columns.{IsOffset}
use Rattle.image_mender.specs.Joined.{joined_words, word_count}
use Rattle.engine_steps.specs.Steps.{known_from}
use Rattle.engine_search.specs.Agreement.{TakesSealing}
use Rattle.engine_search.proofs.PickLaws.{offset_kept}
use Rattle.engine_search.proofs.picking.pick_in.Goals as goal

pub returns-in-Some-clause-taken : goal.returns-in-Some-clause-taken
returns-in-Some-clause-taken g c =
    let offset : IfSome c.args.offset IsOffset = c.requires.offset in
    let given : IsOffset c.in-Some.d = rw c.in-Some.is at offset in
    let same : to_z w32 (of_z w32 c.in-Some.d) ≡ c.in-Some.d = offset_kept c.in-Some.d given in
    let each : ℕ = 2 * word_count c.args.image.now in
    let Of : Option ℤ → Type 0 = λ offset. IfSome (g.S.Shelf.held c.args.shelf.now) (λ files. TakesSealing offset (known_from c.args.shape (joined_words c.args.image.now files) g.row.P c.args.search.now.wanted c.args.seal) 0 each c.pick_given.result
    (g.S.Shelf.taken c.args.shelf.now) (g.S.Shelf.taken c.pick_given.new.shelf)) in
    subst Of (sym c.in-Some.is) (subst (λ d. Of (Some d)) same c.pick_given.ensures.taken)
