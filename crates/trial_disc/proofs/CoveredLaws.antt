-- The covered words of two lists.
use Rattle.std.proofs.Common.{◌≡◌, ◌∙◌, sym, ap, ℕ, ◌+◌, ◌*◌, ◌/◌, ◌%◌, ◌<◌, ◌≤◌, List, length, get_or, ℤ, arith}
use Rattle.std.specs.Prelude.{slice_range}
use Rattle.std.proofs.lemmas.List.Edits.{length-between, get_or-between}
use Rattle.std.proofs.lemmas.Grind.{same_number_lists}
use Rattle.column_map.specs.Columns.{IsOffset, place, stride}
use Rattle.column_map.proofs.MendingLaws.{place_inside}
use Rattle.column_map.proofs.PlaceLaws.{place-from_first}
use Rattle.trial_disc.specs.Compared.{SameCovered}

-- a rip's first covered word stands within its first two strides
pub first_place-le : (d : ℤ) → IsOffset d → place d 0 0 ≤ 2 * stride
first_place-le d offset =
    let last : place d 11759 0 < 3 * stride = place_inside 1 d 11759 0 offset (omega arith) (omega arith) in
    omega (arith, place-from_first d 11759 0 offset)

-- the covered words of a list whose columns begin at some place
abbrev pub covered_words : ℕ → ℕ → List ℕ → List ℕ
covered_words c first words = slice_range words first (first + c * stride)

-- a word of a column, among the covered words
pub covered_word : (c first : ℕ) (words : List ℕ) (j k : ℕ) → j < stride → k < c → get_or (covered_words c first words) (k * stride + j) 0 ≡ get_or words (first + k * stride + j) 0
covered_word c first words j k column number =
    get_or-between words first (first + c * stride) (k * stride + j) 0 (omega arith) ∙ ap (λ at. get_or words at 0) (omega arith)

pub same_from_words : (c : ℕ) (d : ℤ) (mended disc : List ℕ) → IsOffset d → covered_words c (place d 0 0) mended ≡ covered_words c stride disc → SameCovered c d mended disc
same_from_words c d mended disc offset same j k column number =
    ap (λ at. get_or mended at 0) (place-from_first d j k offset) ∙ sym (covered_word c (place d 0 0) mended j k column number)
    ∙ ap (λ words. get_or words (k * stride + j) 0) same ∙ covered_word c stride disc j k column number

pub words_from_same : (c : ℕ) (d : ℤ) (mended disc : List ℕ) → IsOffset d → place d 0 0 + c * stride ≤ length mended → stride + c * stride ≤ length disc
    → SameCovered c d mended disc → covered_words c (place d 0 0) mended ≡ covered_words c stride disc
words_from_same c d mended disc offset in_mended in_disc same =
    same_number_lists _ _ (mended_long ∙ sym disc_long) (λ i below.
    let inside : i < c * stride = omega (arith, mended_long) in
    let j = i % stride in
    let k = i / stride in
    let at : k * stride + j ≡ i = omega arith in
    ap (get_at (covered_words c (place d 0 0) mended)) (sym at) ∙ covered_word c (place d 0 0) mended j k (omega arith) (omega arith)
    ∙ ap (get_at mended) (sym (place-from_first d j k offset)) ∙ same j k (omega arith) (omega arith)
    ∙ sym (covered_word c stride disc j k (omega arith) (omega arith)) ∙ ap (get_at (covered_words c stride disc)) at)
  where
    get_at : List ℕ → ℕ → ℕ
    get_at words i = get_or words i 0

    mended_long : length (covered_words c (place d 0 0) mended) ≡ c * stride
    mended_long = length-between mended (place d 0 0) (place d 0 0 + c * stride) in_mended ∙ omega arith

    disc_long : length (covered_words c stride disc) ≡ c * stride
    disc_long = length-between disc stride (stride + c * stride) in_disc ∙ omega arith
