use Rattle.std.proofs.Common.{◌≡◌, ◌∙◌, ℤ, true, false, inr, refl, rules, subst, w32, to_z, of_z, sym}
use Rattle.std.specs.Prelude.{◌↔◌, IfSome, IsTrue}
use Rattle.rip_outside.proofs.FilesLaws.{if_told_weaker}
use Rattle.image_mender.specs.Joined.{joined_words}
use Rattle.engine_steps.specs.Steps.{Known, known_from}
use Rattle.engine_search.specs.Agreement.{Agrees}
use Rattle.engine_search.proofs.PickLaws.{offset_kept}
use Rattle.engine_search.proofs.agreeing.look_at.Goals as goal

pub returns-then-not-branch-clause-looks : goal.returns-then-not-branch-clause-looks
returns-then-not-branch-clause-looks g c = λ y stands.
    let known : Known = known_from c.args.shape y g.row.P c.args.search.now.wanted c.args.seal in
    let same : to_z w32 (of_z w32 c.args.at.offset) ≡ c.args.at.offset = offset_kept c.args.at.offset c.requires.offset in
    let no : c.in_ok-agrees_at.field-0 ≡ false = search rules in
    let Of : ℤ → Type 0 = λ d. IfSome (g.S.Shelf.held c.args.shelf.now) (λ files. y ≡ joined_words c.args.image.now files → IsTrue c.in_ok-agrees_at.field-0 ↔ Agrees known d) in
    if_told_weaker (g.S.Shelf.held c.args.shelf.now) (λ files. y ≡ joined_words c.args.image.now files → IsTrue c.in_ok-agrees_at.field-0 ↔ Agrees known c.args.at.offset) _
    (λ files agrees is. inr (λ a. (let yes : IsTrue c.in_ok-agrees_at.field-0 = (agrees is).1 a in let clash : true ≡ false = sym yes ∙ no in cc), refl))
    (subst Of same (c.in_ok-agrees_at.ensures.agrees y stands))
