-- Sums of powers of distinct words: if the first n sums of n weighted powers are 0, all weights are 0.
use Rattle.std.proofs.Common.{◌≡◌, ℕ, zero, suc, ◌^◌, ◌<◌, inl, inr, sym, ap, ap₂, ◌∙◌, arith}
use Rattle.std.specs.Int.Bits.{xor_self, xor_zero_r}
use Rattle.std.proofs.lemmas.Nat.{xor_lt}
use Rattle.std.proofs.lemmas.Bool.{cases_lt}
use Rattle.gf16_field.specs.Xor.{◌⊕◌}
use Rattle.gf16_field.specs.Gf16.{◌⊗◌, power}
use Rattle.gf16_field.proofs.XorLaws.{xor_below-same, xor_below-xor, xor_below-zero, same_from_xor}
use Rattle.gf16_field.proofs.FieldLaws.{product_additive_left, product_additive_right, product_assoc, product_comm, product-lt}
use Rattle.gf16_field.proofs.PowerLaws.{zero-product, product-zero, product-one, power-zero, power-suc, power-lt, product_zero_cases}
use Rattle.gf16_poly.specs.Register.{AllWords, Apart, power_sum}
use Rattle.gf16_field.proofs.SumLaws.{times-xor_below}
use Rattle.gf16_field.proofs.ColumnLaws.{product_swap_left}

-- with each weight times x k + y, the sum is the next one, and y times this one
pub power_sum-shifted : (n m y : ℕ) (w x : ℕ → ℕ) → AllWords w → AllWords x → y < 2 ^ 16
    → power_sum n m (λ k. w k ⊗ (x k ⊕ y)) x ≡ power_sum n (suc m) w x ⊕ y ⊗ power_sum n m w x
power_sum-shifted n m y w x ww xw yw =
    xor_below-same n (λ k. (w k ⊗ (x k ⊕ y)) ⊗ power (x k) m) (λ k. w k ⊗ power (x k) (suc m) ⊕ y ⊗ (w k ⊗ power (x k) m))
    (λ k l.
    product_assoc (w k) (x k ⊕ y) (power (x k) m) (ww k) (xor_lt 16 (x k) y (xw k) yw) (power-lt (x k) m (xw k))
    ∙ ap (λ z. w k ⊗ z) ((product_additive_left (power (x k) m)).sums (x k) y ∙ ap (λ z. z ⊕ y ⊗ power (x k) m) (sym (power-suc (x k) m)))
    ∙ (product_additive_right (w k)).sums (power (x k) (suc m)) (y ⊗ power (x k) m)
    ∙ ap (λ z. w k ⊗ power (x k) (suc m) ⊕ z) (product_swap_left (w k) y (power (x k) m) (ww k) yw (power-lt (x k) m (xw k))))
    ∙ xor_below-xor n (λ k. w k ⊗ power (x k) (suc m)) (λ k. y ⊗ (w k ⊗ power (x k) m))
    ∙ ap (λ z. power_sum n (suc m) w x ⊕ z) (sym (times-xor_below y n (λ k. w k ⊗ power (x k) m)))

pub weights_zero : (n : ℕ) (w x : ℕ → ℕ) → AllWords w → AllWords x → Apart n x → ((m : ℕ) → m < n → power_sum n m w x ≡ 0) → (k : ℕ) → k < n → w k ≡ 0
weights_zero zero w x ww xw apart none k l = absurd (omega arith)
weights_zero (suc n) w x ww xw apart none k l =
    let below : (j : ℕ) → j < n → w j ⊗ (x j ⊕ x n) ≡ 0 =
    weights_zero n (λ k. w k ⊗ (x k ⊕ x n)) x (λ k. product-lt (w k) (x k ⊕ x n) (ww k)) xw (λ i j p q. apart i j (omega arith) (omega arith)) (λ m l. lower m l) in
    elim (cases_lt k n) [
      | inl early ↦ zero_below below k early
      | inr late ↦
          let last : k ≡ n = omega arith in
          ap w last ∙ top (zero_below below)
    ]
  where
    -- the last term of the shifted sum is 0, since x n + x n is
    lower : (m : ℕ) → m < n → power_sum n m (λ k. w k ⊗ (x k ⊕ x n)) x ≡ 0
    lower m l =
        sym (ap (λ z. power_sum n m (λ k. w k ⊗ (x k ⊕ x n)) x ⊕ z)
        (ap (λ z. (w n ⊗ z) ⊗ power (x n) m) (xor_self (x n)) ∙ ap (λ z. z ⊗ power (x n) m) (product-zero (w n)) ∙ zero-product (power (x n) m))
        ∙ xor_zero_r (power_sum n m (λ k. w k ⊗ (x k ⊕ x n)) x))
        ∙ power_sum-shifted (suc n) m (x n) w x ww xw (xw n)
        ∙ ap₂ (λ a b. a ⊕ x n ⊗ b) (none (suc m) (omega arith)) (none m (omega arith)) ∙ product-zero (x n)

    zero_below : ((j : ℕ) → j < n → w j ⊗ (x j ⊕ x n) ≡ 0) → (j : ℕ) → j < n → w j ≡ 0
    zero_below products j l =
        product_zero_cases (x j ⊕ x n) (w j) (xor_lt 16 (x j) (x n) (xw j) (xw n)) (ww j)
        (product_comm (x j ⊕ x n) (w j) (xor_lt 16 (x j) (x n) (xw j) (xw n)) (ww j) ∙ products j l)
        (λ e. (let same : j ≡ n = apart j n (omega arith) (omega arith) (same_from_xor (x j) (x n) e) in absurd (omega arith)))

    top : ((j : ℕ) → j < n → w j ≡ 0) → w n ≡ 0
    top zeros =
        sym (product-one (w n) (ww n)) ∙ ap (λ z. w n ⊗ z) (sym (power-zero (x n)))
        ∙ sym (ap (λ z. z ⊕ w n ⊗ power (x n) 0)
        (xor_below-same n (λ k. w k ⊗ power (x k) 0) (λ k. 0) (λ k l. ap (λ z. z ⊗ power (x k) 0) (zeros k l) ∙ zero-product (power (x k) 0)) ∙ xor_below-zero n))
        ∙ none 0 (omega arith)
