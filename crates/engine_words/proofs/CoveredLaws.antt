-- The words of an image that stand in its columns, piece by piece.
use Rattle.std.proofs.Common.{◌≡◌, ◌⊎◌, ◌∙◌, ℕ, ◌+◌, ◌-◌, ◌*◌, ◌≤◌, List, [], ◌++◌, length, take, drop, inl, inr, sym, ap, ap₂, arith}
use Rattle.std.specs.Prelude.{min, slice_range}
use Rattle.std.proofs.Math.Nat.{le-min, min-le_left, min-le_right}
use Rattle.std.proofs.lemmas.Bool.{cases_lt}
use Rattle.std.proofs.lemmas.List.{drop_all, length-drop, take_all}
use Rattle.image_mender.proofs.JoinLaws.{drop-append, take-append}
use Rattle.column_map.specs.Columns.{stride, table_of_image}
use Rattle.column_map.proofs.TableWords.{table_words-image}
use Rattle.image_mender.specs.Seal.{seal_of_table, seal_of_words}
use Rattle.engine_words.specs.Records.{covered_words}

-- the lower of two numbers is at most each of them, and one of them
pub lower_is : (a b m : ℕ) → m ≡ min a b → (m ≤ a) × (m ≤ b) × ((m ≡ a) ⊎ (m ≡ b))
lower_is a b m is = (
  omega (arith, is, min-le_left a b),
  omega (arith, is, min-le_right a b),
  elim (cases_lt a b) [
    | inl low ↦ (let up : a ≤ min a b = le-min (omega arith) (omega arith) in inl (omega (arith, is, up, min-le_left a b)))
    | inr high ↦ (let up : b ≤ min a b = le-min high (omega arith) in inr (omega (arith, is, up, min-le_right a b)))
  ],
)

-- the part of a list from a place on, of some length, cut off where the list ends
clipped : (m n from to : ℕ) (p : List ℕ) → from ≤ length p → from ≤ m → (from ≡ m) ⊎ (from ≡ length p) → to ≤ length p → to ≤ m + n → (to ≡ m + n) ⊎ (to ≡ length p)
    → take n (drop m p) ≡ slice_range p from to
clipped m n from to p inside low from_is upto high to_is = elim (cases_lt m (length p)) [
  | inl within ↦
      let first : from ≡ m = elim from_is [ inl same ↦ same | inr end ↦ omega arith ] in
      elim to_is [
        | inl last ↦ (let size : to - from ≡ n = omega arith in ap₂ (λ k i. take k (drop i p)) (sym size) (sym first))
        | inr end ↦
            let rest : length (drop m p) ≤ n = omega (arith, length-drop m p) in
            let left : length (drop m p) ≤ to - from = omega (arith, length-drop m p) in
            take_all n (drop m p) rest ∙ sym (take_all (to - from) (drop m p) left) ∙ ap (λ i. take (to - from) (drop i p)) (sym first)
      ]
  | inr past ↦
      let first : length p ≤ from = elim from_is [ inl same ↦ omega arith | inr end ↦ omega arith ] in
      take_all n (drop m p) (omega (arith, length-drop m p)) ∙ drop_all m p past ∙ sym (drop_all from p first) ∙ sym (take_all (to - from) (drop from p) (omega (arith, length-drop from p)))
]

-- a further piece of an image, of which the words from one place to another stand in its columns
pub covered_more : (c at from to : ℕ) (y piece : List ℕ) → length y ≡ at → from ≤ length piece → from ≤ stride - at → (from ≡ stride - at) ⊎ (from ≡ length piece)
    → to ≤ length piece → to ≤ stride + c * stride - at → (to ≡ stride + c * stride - at) ⊎ (to ≡ length piece)
    → covered_words c (y ++ piece) ≡ covered_words c y ++ slice_range piece from to
covered_more c at from to y piece size inside low from_is upto high to_is =
    let rest : c * stride - length (drop stride y) ≡ c * stride - (at - stride) = omega (arith, length-drop stride y) in
    let behind : stride - length y ≡ stride - at = omega arith in
    let sum : stride - at + (c * stride - (at - stride)) ≡ stride + c * stride - at ⊎ (stride + c * stride ≤ at) = elim (cases_lt at (stride + c * stride)) [ inl before ↦ inl (omega arith) | inr after ↦ inr (omega arith) ] in
    ap (take (c * stride)) (drop-append stride y piece) ∙ take-append (c * stride) (drop stride y) (drop (stride - length y) piece)
    ∙ ap (λ w. take (c * stride) (drop stride y) ++ w)
    (ap₂ (λ k i. take k (drop i piece)) rest behind
    ∙ clipped (stride - at) (c * stride - (at - stride)) from to piece inside low from_is upto (omega arith) (elim to_is [ inl last ↦ inl (omega arith) | inr end ↦ inr end ]))

-- no words yet
pub covered_none : (c : ℕ) → covered_words c [] ≡ []
covered_none c = ap (take (c * stride)) (drop_all stride [] (omega arith)) ∙ take_all (c * stride) [] (omega arith)

-- the seal of a whole image's table
pub sealed_image : (c : ℕ) (image : List ℕ) → stride + c * stride ≤ length image → seal_of_words (covered_words c image) ≡ seal_of_table c (table_of_image image)
sealed_image c image inside =
    let size : stride + c * stride - stride ≡ c * stride = omega arith in
    ap seal_of_words (ap (λ k. take k (drop stride image)) (sym size) ∙ sym (table_words-image c image inside))
