use Rattle.std.proofs.Common.{◌≡◌, ◌∙◌, ◌<◌, List, length, sym, ap, subst, arith, get_or}
use Rattle.std.specs.Prelude.{All, Contains}
use Rattle.image_mender.specs.declared.image.Part.{Part}
use Rattle.image_mender.specs.Joined.{AreInFiles, EndsInRange, joined_words, word_count}
use Rattle.image_mender.proofs.CutLaws.{all_cut, cut_count, cut_ends, cut_inside, cut_named, run_words}
use Rattle.image_mender.proofs.image.Image.cut.Goals as goal

pub overflow_mul-before : goal.overflow_mul-before
overflow_mul-before c =
    let same = c.parts-part-items.ensures.parts in
    let part = c.part-item.result in
    let below : c.loop-part.part-index < length c.args.self.now = omega (arith, ap length same) in
    let is : part ≡ get_or c.args.self.now c.loop-part.part-index part = c.part-item.is ∙ ap (λ ps. get_or ps c.loop-part.part-index part) same in
    let ends : EndsInRange part = subst EndsInRange (sym is) (c.parts-part-items.ensures.joinable.ends c.loop-part.part-index part below) in
    omega (arith, ends)

pub overflow_add-part : goal.overflow_add-part
overflow_add-part c =
    let same = c.parts-part-items.ensures.parts in
    let part = c.part-item.result in
    let below : c.loop-part.part-index < length c.args.self.now = omega (arith, ap length same) in
    let is : part ≡ get_or c.args.self.now c.loop-part.part-index part = c.part-item.is ∙ ap (λ ps. get_or ps c.loop-part.part-index part) same in
    let ends : EndsInRange part = subst EndsInRange (sym is) (c.parts-part-items.ensures.joinable.ends c.loop-part.part-index part below) in
    omega (arith, ends)

pub of-requires-clause-few : goal.of-requires-clause-few
of-requires-clause-few c =
    let same = c.parts-part-items.ensures.parts in
    let all = all_cut c.args.from c.args.words c.loop-part.skip c.loop-part.left c.loop-part.part-index c.args.self.now c.loop-part.parts.items (omega (arith, ap length same)) c.loop-part.invariant in
    omega (arith, ap word_count all, cut_count c.args.from c.args.words c.args.self.now c.requires.within, c.requires.within, c.parts-part-items.ensures.joinable.few)

pub of-requires-clause-ends : goal.of-requires-clause-ends
of-requires-clause-ends c =
    let same = c.parts-part-items.ensures.parts in
    let all = all_cut c.args.from c.args.words c.loop-part.skip c.loop-part.left c.loop-part.part-index c.args.self.now c.loop-part.parts.items (omega (arith, ap length same)) c.loop-part.invariant in
    subst (λ (parts : List Part). All EndsInRange parts) (sym all) (cut_ends c.args.from c.args.words c.args.self.now c.parts-part-items.ensures.joinable.ends)

pub returns-clause-words : goal.returns-clause-words
returns-clause-words c = λ files inside.
    let same = c.parts-part-items.ensures.parts in
    let all = all_cut c.args.from c.args.words c.loop-part.skip c.loop-part.left c.loop-part.part-index c.args.self.now c.loop-part.parts.items (omega (arith, ap length same)) c.loop-part.invariant in
    ap (λ parts. joined_words parts files) (c.of.ensures ∙ all) ∙ run_words c.args.from c.args.words c.args.self.now files inside

pub returns-clause-inside : goal.returns-clause-inside
returns-clause-inside c = λ files inside.
    let same = c.parts-part-items.ensures.parts in
    let all = all_cut c.args.from c.args.words c.loop-part.skip c.loop-part.left c.loop-part.part-index c.args.self.now c.loop-part.parts.items (omega (arith, ap length same)) c.loop-part.invariant in
    subst (λ (parts : List Part). AreInFiles parts files) (sym (c.of.ensures ∙ all)) (cut_inside c.args.from c.args.words c.args.self.now files inside)

pub returns-clause-count : goal.returns-clause-count
returns-clause-count c =
    let same = c.parts-part-items.ensures.parts in
    let all = all_cut c.args.from c.args.words c.loop-part.skip c.loop-part.left c.loop-part.part-index c.args.self.now c.loop-part.parts.items (omega (arith, ap length same)) c.loop-part.invariant in
    ap word_count (c.of.ensures ∙ all) ∙ cut_count c.args.from c.args.words c.args.self.now c.requires.within

pub returns-clause-named : goal.returns-clause-named
returns-clause-named c = λ names named.
    let same = c.parts-part-items.ensures.parts in
    let all = all_cut c.args.from c.args.words c.loop-part.skip c.loop-part.left c.loop-part.part-index c.args.self.now c.loop-part.parts.items (omega (arith, ap length same)) c.loop-part.invariant in
    subst (λ (parts : List Part). All (λ (p : Part). Contains names p.name) parts) (sym (c.of.ensures ∙ all)) (cut_named names c.args.from c.args.words c.args.self.now named)
