use Rattle.std.proofs.Common.{◌≡◌, ◌∙◌, ap, ℕ, ◌+◌, ◌*◌, ◌≤◌, length, arith, w32, Bool, IsTrue, eqb}
use Rattle.std.specs.Prelude.{List, ◌↔◌, ℤ}
use Rattle.std.specs.Cmp.Lexicographic.{pointwise}
use Rattle.std.proofs.lemmas.Bool.Decides.{Decides-eqb}
use Rattle.std.proofs.lemmas.Int.{to_z-of_z}
use Rattle.std.proofs.lemmas.Slice.Eq.{slice_eq-Decides}
use Rattle.column_map.specs.Columns.{IsOffset, place, stride}
use Rattle.trial_disc.specs.Compared.{SameCovered}
use Rattle.trial_disc.proofs.CoveredLaws.{covered_words, first_place-le, same_from_words, words_from_same}
use Rattle.trial_disc.proofs.compared.same_covered.Goals as goal

-- the test of the two runs of words
tested : (c first : ℕ) (d : ℤ) (mended disc : List ℕ) (result : Bool) → IsOffset d → first ≡ place d 0 0 → first + c * stride ≤ length mended → stride + c * stride ≤ length disc
    → result ≡ pointwise eqb (covered_words c first mended) (covered_words c stride disc) → IsTrue result ↔ SameCovered c d mended disc
tested c first d mended disc result offset at in_mended in_disc is =
    let decides = slice_eq-Decides Decides-eqb (covered_words c (place d 0 0) mended) (covered_words c stride disc) result (rw at at is) in
    (λ yes. same_from_words c d mended disc offset (decides.0 yes), λ same. decides.1 (words_from_same c d mended disc offset (rw at at in_mended) in_disc same))

pub returns : goal.returns
returns c =
    let first : c.start_of-first.result ≡ place c.args.d 0 0 = c.start_of-first.ensures.value ∙ ap (λ d. place d 0 0) (to_z-of_z w32 c.args.d c.ranges.d) in
    let inside : place c.args.d 0 0 ≤ 2 * stride = first_place-le c.args.d c.requires.offset in
    rw (← c.per_column.ensures.value) (tested c.per_column.result c.start_of-first.result c.args.d c.args.mended.now c.args.disc.now c.eq.result c.requires.offset first (omega arith) (omega arith) c.eq.ensures)
