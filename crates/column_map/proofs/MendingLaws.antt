-- Laws of mended rips.
use Rattle.std.proofs.Common.{◌≡◌, ◌∙◌, ◌⊎◌, ℕ, ◌+◌, ◌-◌, ◌*◌, ◌/◌, ◌%◌, ◌<◌, List, length, get_or, ℤ, pos, negsuc, inl, inr, sym, ap, arith}
use Rattle.std.specs.Prelude.{slice_index}
use Rattle.std.proofs.lemmas.Bool.{cases_lt}
use Rattle.std.proofs.lemmas.Grind.{same_number_lists}
use Rattle.std.proofs.lemmas.Int.{ints}
use Rattle.column_map.specs.Columns.{IsCovered, IsOffset, IsWordAt, WordTable, place, stride}
use Rattle.column_map.specs.Mending.{IsMended}
use Rattle.column_map.proofs.PlaceLaws.{place-from_first}

-- words of columns lie in a rip that has the columns' strides, and one more before them and after them
pub place_inside : (c : ℕ) (d : ℤ) (j k : ℕ) → IsOffset d → j < stride → k < c → place d j k < (c + 2) * stride
place_inside c (pos d) j k h column number = omega (arith, ints, h.most)
place_inside c (negsuc d) j k h column number = omega arith

-- a place is that of a word of a column, or it isn't
pub covered_or_not : (c : ℕ) (d : ℤ) (i : ℕ) → IsOffset d → IsCovered c d i ⊎ (IsCovered c d i → ⊥)
covered_or_not c d i h =
    let past : ℕ = i - place d 0 0 in
    elim (cases_lt i (place d 0 0)) [
      | inl before ↦ inr (λ at. let here : place d at.0 at.1 ≡ i = at.2.here in omega (arith, place-from_first d at.0 at.1 h))
      | inr after ↦
          elim (cases_lt (past / stride) c) [
            | inl within ↦ inl (
              past % stride,
              past / stride,
              record {
                column = omega arith;
                number = within;
                here = place-from_first d (past % stride) (past / stride) h ∙ omega arith;
              },
            )
            | inr behind ↦ inr (λ at.
                let here : place d at.0 at.1 ≡ i = at.2.here in
                let column : at.0 < stride = at.2.column in
                let number : at.1 < c = at.2.number in
                omega (arith, place-from_first d at.0 at.1 h))
          ]
    ]

-- a rip that was mended by tables that agree is one
pub mended_one : (c : ℕ) (rip : List ℕ) (d : ℤ) (table other : WordTable) (mended again : List ℕ) → IsOffset d
    → ((j k : ℕ) → j < stride → k < c → table j k ≡ other j k) → IsMended c rip d table mended → IsMended c rip d other again → mended ≡ again
mended_one c rip d table other mended again h same one two = same_number_lists mended again (one.whole ∙ sym two.whole) each
  where
    each : (i : ℕ) → i < length mended → get_or mended i 0 ≡ get_or again i 0
    each i below = elim (covered_or_not c d i h) [
      | inl at ↦
          let word : IsWordAt c d i at.0 at.1 = at.2 in
          ap (slice_index mended) (sym word.here) ∙ one.covered at.0 at.1 word.column word.number ∙ same at.0 at.1 word.column word.number
          ∙ sym (two.covered at.0 at.1 word.column word.number) ∙ ap (slice_index again) word.here
      | inr none ↦ one.others i none ∙ sym (two.others i none)
    ]
