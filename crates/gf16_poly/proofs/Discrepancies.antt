-- Registers and discrepancies: a register generates where it misses no word.
use Rattle.std.proofs.Common.{◌≡◌, ◌≢◌, ℕ, zero, suc, ◌+◌, ◌-◌, ◌<◌, ◌≤◌, inl, inr, sym, ap, ap₂, ◌∙◌, arith, add-one, List, length, get_or, set, get_or-set_other, get_or-set_same}
use Rattle.std.specs.Int.Bits.{xor_assoc, xor_self, xor_zero_r}
use Rattle.std.proofs.lemmas.Bool.{cases_lt}
use Rattle.gf16_field.specs.Xor.{◌⊕◌, xor_below}
use Rattle.gf16_field.specs.Gf16.{◌⊗◌, power}
use Rattle.gf16_field.proofs.XorLaws.{xor_below-same, same_from_xor}
use Rattle.gf16_field.proofs.FieldLaws.{one-product}
use Rattle.gf16_field.proofs.PowerLaws.{power-zero, power-suc}
use Rattle.gf16_field.proofs.ColumnLaws.{xor_below-first}
use Rattle.gf16_poly.specs.Register.{AllWords, Generates, with_one, discrepancy_at, times_at, value_at}

pub with_one_word : (b : ℕ → ℕ) → AllWords b → AllWords (with_one b)
unfolding with_one
with_one_word b words zero = omega arith
with_one_word b words (suc j) = words j

pub discrepancy_with_one : (m : ℕ) (b s : ℕ → ℕ) (n : ℕ) → AllWords s → xor_below (suc m) (λ j. with_one b j ⊗ s (n - j)) ≡ discrepancy_at m b s n
unfolding discrepancy_at with_one
discrepancy_with_one m b s n words =
    xor_below-first m (λ j. with_one b j ⊗ s (n - j))
    ∙ ap₂ (λ x y. x ⊕ y)
    (let whole : n - 0 ≡ n = omega arith in ap (λ p. 1 ⊗ s p) whole ∙ one-product (s n) (words n))
    (xor_below-same m (λ k. b k ⊗ s (n - suc k)) (λ j. b j ⊗ s (n - 1 - j))
    (λ k l. let place : n - suc k ≡ n - 1 - k = omega arith in ap (λ p. b k ⊗ s p) place))

-- a register generates where it leaves no miss
pub generates_from_zeros : (count len : ℕ) (c s : ℕ → ℕ) → ((n : ℕ) → len ≤ n → n < count → discrepancy_at len c s n ≡ 0) → Generates count len c s
unfolding discrepancy_at
generates_from_zeros count len c s zeros n l below = same_from_xor (s n) (xor_below len (λ i. c i ⊗ s (n - 1 - i))) (zeros n l below)

pub zeros_from_generates : (count len : ℕ) (c s : ℕ → ℕ) → Generates count len c s → (n : ℕ) → len ≤ n → n < count → discrepancy_at len c s n ≡ 0
unfolding discrepancy_at
zeros_from_generates count len c s g n l below = ap (λ x. s n ⊕ x) (sym (g n l below)) ∙ xor_self (s n)

pub generates_fewer : (m n len : ℕ) (c s : ℕ → ℕ) → m ≤ n → Generates n len c s → Generates m len c s
generates_fewer m n len c s l g k h below = g k h (omega arith)

-- ---- what the code computes

pub discrepancy_none : (c s : ℕ → ℕ) (n : ℕ) → s n ≡ discrepancy_at 0 c s n
unfolding discrepancy_at
discrepancy_none c s n = sym (xor_zero_r (s n))

pub discrepancy_more : (i n : ℕ) (c s : ℕ → ℕ) (sum product next : ℕ) → sum ≡ discrepancy_at i c s n → product ≡ c i ⊗ s (n - 1 - i) → next ≡ sum ⊕ product
    → next ≡ discrepancy_at (i + 1) c s n
unfolding discrepancy_at
discrepancy_more i n c s sum product next so times is =
    rw add-one (is ∙ ap₂ (λ x y. x ⊕ y) so times ∙ xor_assoc (s n) (xor_below i (λ i. c i ⊗ s (n - 1 - i))) (c i ⊗ s (n - 1 - i)))

-- a coefficient of the product with the register's polynomial
pub times_is : (n r : ℕ) (c s : ℕ → ℕ) → AllWords s → r ≡ discrepancy_at n c s n → r ≡ times_at (with_one c) s n
times_is n r c s sw is = is ∙ sym (discrepancy_with_one n c s n sw)

pub value_first : (c : ℕ → ℕ) (x : ℕ) → 1 ≡ value_at (0 + 1) (with_one c) x
unfolding with_one
value_first c x = sym (ap (λ z. 0 ⊕ 1 ⊗ z) (power-zero x) ∙ ap (λ z. 0 ⊕ z) (one-product 1 (omega arith)))

pub value_more : (i : ℕ) (c : ℕ → ℕ) (x sum p product next : ℕ) → sum ≡ value_at (i + 1) (with_one c) x → p ≡ power x (i + 1) → product ≡ c i ⊗ p → next ≡ sum ⊕ product
    → next ≡ value_at (i + 1 + 1) (with_one c) x
unfolding with_one
value_more i c x sum p product next so power_is times is =
    let one : i + 1 ≡ suc i = omega arith in
    let two : i + 1 + 1 ≡ suc (suc i) = omega arith in
    is ∙ ap₂ (λ a b. a ⊕ b) (so ∙ ap (λ m. value_at m (with_one c) x) one) (times ∙ ap (λ z. c i ⊗ z) (power_is ∙ ap (power x) one))
    ∙ ap (λ m. value_at m (with_one c) x) (sym two)

pub power_more : (n x p next : ℕ) → p ≡ power x n → next ≡ x ⊗ p → next ≡ power x (n + 1)
power_more n x p next power_is is = rw add-one (is ∙ ap (λ z. x ⊗ z) power_is ∙ sym (power-suc x n))

-- one entry more of a list that is filled from the front
pub filled_more : (next : List ℕ) (i r : ℕ) (f : ℕ → ℕ) → i < length next → r ≡ f i → ((k : ℕ) → k < i → get_or next k 0 ≡ f k)
    → (k : ℕ) → k < i + 1 → get_or (set next i r) k 0 ≡ f k
filled_more next i r f inside is before k l =
    elim (cases_lt k i) [
      | inl below ↦ (let apart : k ≢ i = omega arith in rw get_or-set_other (before k below))
      | inr above ↦ (let same : k ≡ i = omega arith in rw same (rw get_or-set_same is))
    ]

-- ---- the registers of a search that stands at the end, or at a word that is missed

pub generates_when_all : (n p len : ℕ) (c s : ℕ → ℕ) → p ≤ n → ((t : ℕ) → len ≤ t → t < n → discrepancy_at len c s t ≡ 0) → Generates p len c s
generates_when_all n p len c s end zeros = generates_from_zeros p len c s (λ t l below. zeros t l (omega arith))

pub not_generated : (n p len d : ℕ) (c s : ℕ → ℕ) → len ≤ n → n < p → d ≡ discrepancy_at len c s n → d ≢ 0 → Generates p len c s → ⊥
not_generated n p len d c s fits inside is wrong g = wrong (is ∙ zeros_from_generates p len c s g n fits inside)

pub zeros_more : (n len d : ℕ) (c s : ℕ → ℕ) → d ≡ discrepancy_at len c s n → d ≡ 0 → ((t : ℕ) → len ≤ t → t < n → discrepancy_at len c s t ≡ 0)
    → (t : ℕ) → len ≤ t → t < n + 1 → discrepancy_at len c s t ≡ 0
zeros_more n len d c s is right before t l below =
    elim (cases_lt t n) [
      | inl early ↦ before t l early
      | inr late ↦ (let last : t ≡ n = omega arith in ap (discrepancy_at len c s) last ∙ sym is ∙ right)
    ]
