use Rattle.std.proofs.Common.{◌≡◌, ℤ, subst, w32, to_z, of_z}
use Rattle.std.specs.Prelude.{◌↔◌, IfOk, IfSome, IsTrue}
use Rattle.std.proofs.lemmas.Int.{to_z-of_z}
use Rattle.image_mender.specs.Joined.{joined_words}
use Rattle.engine_steps.specs.Steps.{known_from}
use Rattle.engine_search.specs.Agreement.{Agrees}
use Rattle.engine_search.proofs.agreeing.agrees_given.Goals as goal

pub returns-clause-agrees : goal.returns-clause-agrees
returns-clause-agrees g c = λ y stands.
    let same : to_z w32 (of_z w32 c.args.d) ≡ c.args.d = to_z-of_z w32 c.args.d c.ranges.d in
    let Of : ℤ → Type 0 = λ d. IfSome (g.S.Shelf.held c.args.shelf.now) (λ files. y ≡ joined_words c.args.image.now files
    → IfOk c.agrees_at.result (λ agrees. IsTrue agrees ↔ Agrees (known_from c.args.shape y g.row.P c.args.search.now.wanted c.args.seal) d)) in
    subst Of same (c.agrees_at.ensures.agrees y stands)
