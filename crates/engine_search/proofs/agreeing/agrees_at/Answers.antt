use Rattle.std.proofs.Common.{◌≡◌, ℕ, ℤ, List, Some, Option, refl, subst, sym, w32, to_z, of_z}
use Rattle.std.specs.Prelude.{◌↔◌, IfOk, IfSome, IsTrue}
use Rattle.std.proofs.lemmas.Int.{to_z-of_z}
use Rattle.rip_outside.proofs.FilesLaws.{if_told}
use Rattle.image_mender.specs.Joined.{joined_words}
use Rattle.engine_steps.specs.Steps.{known_from}
use Rattle.engine_search.specs.Agreement.{Agrees}
use Rattle.engine_search.proofs.agreeing.agrees_at.Goals as goal

pub returns-in-None-clause-agrees : goal.returns-in-None-clause-agrees
returns-in-None-clause-agrees g c = λ y stands.
    let near = c.requires.near y stands in
    if_told (g.S.Shelf.held c.args.shelf.now) _ (λ files told is. (λ _. (near.0, record { fits = near.1; sealed = rw c.in-None.is tt }), λ _. refl))

pub returns-in-Some-clause-agrees : goal.returns-in-Some-clause-agrees
returns-in-Some-clause-agrees g c = λ y stands.
    let same : to_z w32 (of_z w32 c.args.d) ≡ c.args.d = to_z-of_z w32 c.args.d c.ranges.d in
    let Of : Option (List ℕ) → ℤ → Type 0 = λ seal d. IfSome (g.S.Shelf.held c.args.shelf.now) (λ files. y ≡ joined_words c.args.image.now files
    → IfOk c.has_seal.result (λ agrees. IsTrue agrees ↔ Agrees (known_from c.args.shape y g.row.P c.args.search.now.wanted seal) d)) in
    subst (λ seal. Of seal c.args.d) (sym c.in-Some.is) (subst (Of (Some c.in-Some.seal)) same (c.has_seal.ensures.has y stands))
