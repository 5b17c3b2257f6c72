-- Words made of weighted powers of n words that are apart: the locator polynomial generates them, and no shorter register does.
use Rattle.std.proofs.Common.{◌≡◌, ◌≢◌, ℕ, suc, ◌+◌, ◌-◌, ◌^◌, ◌<◌, ◌≤◌, inl, inr, sym, ap, ◌∙◌, arith}
use Rattle.std.proofs.lemmas.Bool.{cases_lt}
use Rattle.gf16_field.specs.Xor.{xor_below}
use Rattle.gf16_field.specs.Gf16.{◌⊗◌, power}
use Rattle.gf16_field.proofs.XorLaws.{xor_below-same, xor_below-zero, xor_below-swap}
use Rattle.gf16_field.proofs.FieldLaws.{product_assoc, product_comm, product-lt}
use Rattle.gf16_field.proofs.PowerLaws.{zero-product, product-zero, power-add, power-lt, product_zero_cases}
use Rattle.gf16_field.proofs.ColumnLaws.{product_swap_left}
use Rattle.gf16_field.proofs.SumLaws.{times-xor_below}
use Rattle.gf16_poly.specs.Register.{AllWords, Apart, Generates, with_one, discrepancy_at, locator, power_sum}
use Rattle.gf16_poly.proofs.Discrepancies.{discrepancy_with_one, with_one_word, generates_from_zeros, zeros_from_generates}
use Rattle.gf16_poly.proofs.PowerSums.{weights_zero}
use Rattle.gf16_poly.specs.Division.{horner}
use Rattle.gf16_poly.proofs.Roots.{horner-same, horner-lt, horner-sum, too_many_roots}
use Rattle.gf16_poly.proofs.Locator.{locator-lt, locator_roots, with_one_locator, lead}

-- ---- a register on sums of powers

module _ (n : ℕ) (v x : ℕ → ℕ) (vw : AllWords v) (xw : AllWords x) where
  pub convolved : (len at : ℕ) (c : ℕ → ℕ) → AllWords c → len ≤ at
      → xor_below (suc len) (λ j. c j ⊗ power_sum n (at - j) v x) ≡ power_sum n (at - len) (λ k. v k ⊗ horner len c (x k)) x
  convolved len at c cw l =
      xor_below-same (suc len) (λ j. c j ⊗ power_sum n (at - j) v x) (λ j. xor_below n (λ k. (v k ⊗ power (x k) (at - len)) ⊗ (c j ⊗ power (x k) (len - j))))
      (λ j j_low.
      times-xor_below (c j) n (λ k. v k ⊗ power (x k) (at - j))
      ∙ xor_below-same n (λ k. c j ⊗ (v k ⊗ power (x k) (at - j))) (λ k. (v k ⊗ power (x k) (at - len)) ⊗ (c j ⊗ power (x k) (len - j)))
      (λ k k_low.
      let parts : at - j ≡ (at - len) + (len - j) = omega arith in
      let p : ℕ = power (x k) (at - len) in
      let q : ℕ = power (x k) (len - j) in
      let pw : p < 2 ^ 16 = power-lt (x k) (at - len) (xw k) in
      let qw : q < 2 ^ 16 = power-lt (x k) (len - j) (xw k) in
      ap (λ z. c j ⊗ (v k ⊗ z)) (ap (power (x k)) parts ∙ power-add (x k) (at - len) (len - j) (xw k))
      ∙ ap (λ z. c j ⊗ z) (sym (product_assoc (v k) p q (vw k) pw qw))
      ∙ product_swap_left (c j) (v k ⊗ p) q (cw j) (product-lt (v k) p (vw k)) qw))
      ∙ xor_below-swap (suc len) n (λ j k. (v k ⊗ power (x k) (at - len)) ⊗ (c j ⊗ power (x k) (len - j)))
      ∙ xor_below-same n (λ k. xor_below (suc len) (λ j. (v k ⊗ power (x k) (at - len)) ⊗ (c j ⊗ power (x k) (len - j)))) (λ k. (v k ⊗ horner len c (x k)) ⊗ power (x k) (at - len))
      (λ k k_low.
      let p : ℕ = power (x k) (at - len) in
      let h : ℕ = horner len c (x k) in
      let pw : p < 2 ^ 16 = power-lt (x k) (at - len) (xw k) in
      let hw : h < 2 ^ 16 = horner-lt len c (x k) cw (xw k) in
      sym (times-xor_below (v k ⊗ p) (suc len) (λ j. c j ⊗ power (x k) (len - j)))
      ∙ ap (λ z. (v k ⊗ p) ⊗ z) (sym (horner-sum len c (x k) cw (xw k)))
      ∙ product_assoc (v k) p h (vw k) pw hw ∙ ap (λ z. v k ⊗ z) (product_comm p h pw hw) ∙ sym (product_assoc (v k) h p (vw k) hw pw))

  module _ (p : ℕ) (s : ℕ → ℕ) (sw : AllWords s) (made : (m : ℕ) → m < p → s m ≡ power_sum n m v x) where
    pub discrepancy_is : (len at : ℕ) (c : ℕ → ℕ) → AllWords c → len ≤ at → at < p
        → discrepancy_at len c s at ≡ power_sum n (at - len) (λ k. v k ⊗ horner len (with_one c) (x k)) x
    discrepancy_is len at c cw l below =
        sym (discrepancy_with_one len c s at sw)
        ∙ xor_below-same (suc len) (λ j. with_one c j ⊗ s (at - j)) (λ j. with_one c j ⊗ power_sum n (at - j) v x)
        (λ j k. ap (λ z. with_one c j ⊗ z) (made (at - j) (omega arith)))
        ∙ convolved len at (with_one c) (with_one_word c cw) l

    -- the product generates
    pub locator_generates : Generates p n (λ i. locator n x (suc i)) s
    locator_generates =
        generates_from_zeros p n (λ i. locator n x (suc i)) s
        (λ at l below.
        discrepancy_is n at (λ i. locator n x (suc i)) (λ i. locator-lt n x xw (suc i)) l below
        ∙ xor_below-same n (λ k. (v k ⊗ horner n (with_one (λ i. locator n x (suc i))) (x k)) ⊗ power (x k) (at - n)) (λ k. 0)
        (λ k k_low.
        ap (λ z. (v k ⊗ z) ⊗ power (x k) (at - n)) (horner-same n (with_one (λ i. locator n x (suc i))) (locator n x) (x k) (with_one_locator n x) ∙ locator_roots n x k xw k_low)
        ∙ ap (λ z. z ⊗ power (x k) (at - n)) (product-zero (v k)) ∙ zero-product (power (x k) (at - n)))
        ∙ xor_below-zero n)

    -- no shorter one does
    pub no_shorter : (len : ℕ) (c : ℕ → ℕ) → AllWords c → Generates p len c s → n + n ≤ p → Apart n x → ((k : ℕ) → k < n → v k ≢ 0) → n ≤ len
    no_shorter len c cw g half apart some =
        elim (cases_lt len n) [
          | inl short ↦
              absurd (too_many_roots len (with_one c) x (with_one_word c cw) xw (lead c) (λ i j k l. apart i j (omega arith) (omega arith))
              (λ k l.
              product_zero_cases (v k) (horner len (with_one c) (x k)) (vw k) (horner-lt len (with_one c) (x k) (with_one_word c cw) (xw k))
              (weights_zero n (λ k. v k ⊗ horner len (with_one c) (x k)) x (λ k. product-lt (v k) (horner len (with_one c) (x k)) (vw k)) xw apart
              (λ m m_low.
              let back : m ≡ m + len - len = omega arith in
              ap (λ m. power_sum n m (λ k. v k ⊗ horner len (with_one c) (x k)) x) back
              ∙ sym (discrepancy_is len (m + len) c cw (omega arith) (omega arith))
              ∙ zeros_from_generates p len c s g (m + len) (omega arith) (omega arith))
              k (omega arith))
              (some k (omega arith))))
          | inr long ↦ long
        ]
