-- The weights of roots: words that a register generates are weighted powers of its roots, and each weight comes back by a division.
use Rattle.std.proofs.Common.{◌≡◌, ◌≢◌, ℕ, zero, suc, ◌-◌, ◌^◌, ◌<◌, ◌≤◌, cond, eqb, inl, inr, refl, sym, ap, ap₂, ◌∙◌, arith, eq-eqb, ne_eqb}
use Rattle.std.specs.Int.Bits.{xor_self, xor_zero_r}
use Rattle.std.proofs.lemmas.Nat.{xor_comm, xor_lt}
use Rattle.std.proofs.lemmas.Bool.{cases_lt, cases_eq}
use Rattle.gf16_field.specs.Xor.{◌⊕◌, xor_below}
use Rattle.gf16_field.specs.Gf16.{◌⊗◌, power}
use Rattle.gf16_field.proofs.XorLaws.{xor_below-same, xor_below-lt, same_from_xor, xor_cancel}
use Rattle.gf16_field.proofs.FieldLaws.{product-lt, product_assoc, product_comm}
use Rattle.gf16_field.proofs.PowerLaws.{zero-product, product-zero, product-one, power-zero, power-lt, product_zero_cases, inverse_law}
use Rattle.gf16_field.proofs.SumLaws.{xor_below-none, only_term}
use Rattle.gf16_poly.specs.Division.{horner, quotient}
use Rattle.gf16_poly.specs.Register.{AllWords, Apart, Generates, power_sum, with_one}
use Rattle.gf16_poly.proofs.Discrepancies.{generates_from_zeros, with_one_word}
use Rattle.gf16_poly.proofs.FlipSums.{convolved, discrepancy_is}
use Rattle.gf16_poly.proofs.Locator.{lead}
use Rattle.gf16_poly.proofs.PowerSums.{power_sum-shifted}
use Rattle.gf16_poly.proofs.Roots.{divided, horner-lt, horner-same, quotient-lt, quotient_lead, too_many_roots}

-- ---- any n words are the sums of n weighted powers

-- one weight more: the earlier ones divided by x i + x n, and what is left of the first word
module _ (n : ℕ) (x s v : ℕ → ℕ) (xw : AllWords x) (sw : AllWords s) (vw : AllWords v) (apart : Apart (suc n) x)
    (before : (m : ℕ) → m < n → s (suc m) ⊕ x n ⊗ s m ≡ power_sum n m v x) where
  lower : ℕ → ℕ
  lower i = v i ⊗ power (x i ⊕ x n) 65534

  lower-lt : AllWords lower
  unfolding lower
  lower-lt i = product-lt (v i) (power (x i ⊕ x n) 65534) (vw i)

  top : ℕ
  top = s 0 ⊕ xor_below n lower

  top-lt : top < 2 ^ 16
  unfolding top
  top-lt = xor_lt 16 (s 0) (xor_below n lower) (sw 0) (xor_below-lt 16 n lower (λ i l. lower-lt i))

  weight : ℕ → ℕ
  weight i = cond (eqb i n) top (lower i)

  weight_last : weight n ≡ top
  unfolding weight
  weight_last = rw (eq-eqb n n refl) refl

  weight_before : (i : ℕ) → i < n → weight i ≡ lower i
  unfolding weight
  weight_before i l = let other : i ≢ n = omega arith in rw (ne_eqb i n other) refl

  weight-lt : AllWords weight
  unfolding weight
  weight-lt i = elim (cases_eq i n) [
    | inl same ↦ rw (eq-eqb i n same) top-lt
    | inr other ↦ rw (ne_eqb i n other) (lower-lt i)
  ]

  -- a lower weight times x i + x n is the given one
  lower_back : (i : ℕ) → i < n → lower i ⊗ (x i ⊕ x n) ≡ v i
  unfolding lower
  lower_back i l =
      let d : ℕ = x i ⊕ x n in
      let dw : x i ⊕ x n < 2 ^ 16 = xor_lt 16 (x i) (x n) (xw i) (xw n) in
      let some : x i ⊕ x n ≢ 0 = λ e. (let same : i ≡ n = apart i n (omega arith) (omega arith) (same_from_xor (x i) (x n) e) in absurd (omega arith)) in
      product_assoc (v i) (power (x i ⊕ x n) 65534) (x i ⊕ x n) (vw i) (power-lt (x i ⊕ x n) 65534 dw) dw
      ∙ ap (λ z. v i ⊗ z) (product_comm (power (x i ⊕ x n) 65534) (x i ⊕ x n) (power-lt (x i ⊕ x n) 65534 dw) dw ∙ inverse_law (x i ⊕ x n) dw some)
      ∙ product-one (v i) (vw i)

  shifted_is : (m : ℕ) → m < n → power_sum (suc n) m (λ k. weight k ⊗ (x k ⊕ x n)) x ≡ s (suc m) ⊕ x n ⊗ s m
  shifted_is m l =
      ap₂ (λ a b. a ⊕ b)
      (xor_below-same n (λ k. (weight k ⊗ (x k ⊕ x n)) ⊗ power (x k) m) (λ k. v k ⊗ power (x k) m)
      (λ k k_low. ap (λ z. z ⊗ power (x k) m) (ap (λ z. z ⊗ (x k ⊕ x n)) (weight_before k k_low) ∙ lower_back k k_low)))
      (ap (λ z. (weight n ⊗ z) ⊗ power (x n) m) (xor_self (x n)) ∙ ap (λ z. z ⊗ power (x n) m) (product-zero (weight n)) ∙ zero-product (power (x n) m))
      ∙ xor_zero_r (power_sum n m v x) ∙ sym (before m l)

  weighted : (m : ℕ) → m < suc n → s m ≡ power_sum (suc n) m weight x
  unfolding top
  weighted zero l =
      sym (ap₂ (λ a b. a ⊕ b)
      (xor_below-same n (λ k. weight k ⊗ power (x k) 0) lower
      (λ k k_low. ap₂ (λ a b. a ⊗ b) (weight_before k k_low) (power-zero (x k)) ∙ product-one (lower k) (lower-lt k)))
      (ap₂ (λ a b. a ⊗ b) weight_last (power-zero (x n)) ∙ product-one top top-lt)
      ∙ xor_comm (xor_below n lower) (s 0 ⊕ xor_below n lower) ∙ xor_cancel (s 0) (xor_below n lower))
  weighted (suc m) l =
      sym (xor_cancel (s (suc m)) (x n ⊗ s m))
      ∙ ap₂ (λ a b. a ⊕ b) (sym (shifted_is m (omega arith)) ∙ power_sum-shifted (suc n) m (x n) weight x weight-lt xw (xw n)) (ap (λ z. x n ⊗ z) (weighted m (omega arith)))
      ∙ xor_cancel (power_sum (suc n) (suc m) weight x) (x n ⊗ power_sum (suc n) m weight x)

pub weights_exist : (n : ℕ) (x s : ℕ → ℕ) → AllWords x → AllWords s → Apart n x → (w : ℕ → ℕ) × AllWords w × ((m : ℕ) → m < n → s m ≡ power_sum n m w x)
weights_exist zero x s xw sw apart = (λ i. 0, λ i. omega arith, λ m l. absurd (omega arith))
weights_exist (suc n) x s xw sw apart =
    let below = weights_exist n x (λ m. s (suc m) ⊕ x n ⊗ s m) xw
    (λ m. xor_lt 16 (s (suc m)) (x n ⊗ s m) (sw (suc m)) (product-lt (x n) (s m) (xw n))) (λ i j k l. apart i j (omega arith) (omega arith)) in (
      weight n x s below.0 xw sw below.1 apart below.2,
      weight-lt n x s below.0 xw sw below.1 apart below.2,
      weighted n x s below.0 xw sw below.1 apart below.2,
    )

-- ---- what a register generates is told by the first words

pub generated_same : (p len : ℕ) (c s r : ℕ → ℕ) → Generates p len c s → Generates p len c r → ((m : ℕ) → m < len → s m ≡ r m)
    → (n : ℕ) → n ≤ p → (m : ℕ) → m < n → s m ≡ r m
generated_same p len c s r sg rg first zero fits m l = absurd (omega arith)
generated_same p len c s r sg rg first (suc n) fits m l =
    let before : (i : ℕ) → i < n → s i ≡ r i = generated_same p len c s r sg rg first n (omega arith) in
    elim (cases_lt m n) [
      | inl early ↦ before m early
      | inr late ↦
          elim (cases_lt m len) [
            | inl head ↦ first m head
            | inr tail ↦
                sg m tail (omega arith)
                ∙ xor_below-same len (λ i. c i ⊗ s (m - 1 - i)) (λ i. c i ⊗ r (m - 1 - i)) (λ i i_low. ap (λ z. c i ⊗ z) (before (m - 1 - i) (omega arith)))
                ∙ sym (rg m tail (omega arith))
          ]
    ]

-- ---- weighted powers of a register's roots

module _ (p len : ℕ) (c x : ℕ → ℕ) (cw : AllWords c) (xw : AllWords x) where
  power_sum-lt : (n m : ℕ) (w : ℕ → ℕ) → AllWords w → power_sum n m w x < 2 ^ 16
  power_sum-lt n m w ww = xor_below-lt 16 n (λ k. w k ⊗ power (x k) m) (λ k l. product-lt (w k) (power (x k) m) (ww k))

  -- a register generates them where each weight or the polynomial at its root is 0
  pub weighted_generates : (n : ℕ) (w s : ℕ → ℕ) → AllWords w → AllWords s → ((m : ℕ) → m < p → s m ≡ power_sum n m w x)
      → ((k : ℕ) → k < n → w k ⊗ horner len (with_one c) (x k) ≡ 0) → Generates p len c s
  weighted_generates n w s ww sw made none =
      generates_from_zeros p len c s
      (λ at l below.
      discrepancy_is n w x ww xw p s sw made len at c cw l below
      ∙ xor_below-none n (λ k. (w k ⊗ horner len (with_one c) (x k)) ⊗ power (x k) (at - len))
      (λ k k_low. ap (λ z. z ⊗ power (x k) (at - len)) (none k k_low) ∙ zero-product (power (x k) (at - len))))

  -- words that a register with len roots generates are weighted powers of them
  pub generated_weights : (s : ℕ → ℕ) → AllWords s → Generates p len c s → Apart len x → ((k : ℕ) → k < len → horner len (with_one c) (x k) ≡ 0)
      → (w : ℕ → ℕ) × AllWords w × ((m : ℕ) → m < p → s m ≡ power_sum len m w x)
  generated_weights s sw g apart roots =
      let found = weights_exist len x s xw sw apart in
      let w : ℕ → ℕ = found.0 in
      let made : (m : ℕ) → m < len → s m ≡ power_sum len m found.0 x = found.2 in
      let sums : Generates p len c (λ m. power_sum len m found.0 x) =
      weighted_generates len found.0 (λ m. power_sum len m found.0 x) found.1 (λ m. power_sum-lt len m found.0 found.1) (λ m l. refl)
      (λ k l. ap (λ z. found.0 k ⊗ z) (roots k l) ∙ product-zero (found.0 k)) in (
        found.0,
        found.1,
        λ m l. generated_same p len c s (λ m. power_sum len m found.0 x) g sums made p (omega arith) m l,
      )

-- ---- one weight, by division at its root

-- the polynomial c of degree n + 1, highest coefficient first, with n + 1 roots x
module _ (n : ℕ) (c x : ℕ → ℕ) (cw : AllWords c) (xw : AllWords x) (one : c 0 ≡ 1) (apart : Apart (suc n) x)
    (roots : (k : ℕ) → k < suc n → horner (suc n) c (x k) ≡ 0) (k : ℕ) (inside : k < suc n) where
  remainder : quotient (x k) c (suc n) ≡ 0
  remainder =
      sym (ap (λ z. z ⊕ quotient (x k) c (suc n)) (ap (λ z. z ⊗ horner n (quotient (x k) c) (x k)) (xor_self (x k)) ∙ zero-product (horner n (quotient (x k) c) (x k))))
      ∙ sym (divided n (x k) c (x k) cw (xw k) (xw k)) ∙ roots k inside

  -- the other roots are roots of the quotient
  pub quotient_root : (j : ℕ) → j < suc n → j ≢ k → horner n (quotient (x k) c) (x j) ≡ 0
  quotient_root j l other =
      product_zero_cases (x j ⊕ x k) (horner n (quotient (x k) c) (x j)) (xor_lt 16 (x j) (x k) (xw j) (xw k)) (horner-lt n (quotient (x k) c) (x j) (quotient-lt (x k) c (xw k) cw) (xw j))
      (sym (xor_zero_r ((x j ⊕ x k) ⊗ horner n (quotient (x k) c) (x j))) ∙ ap (λ z. (x j ⊕ x k) ⊗ horner n (quotient (x k) c) (x j) ⊕ z) (sym remainder)
      ∙ sym (divided n (x k) c (x j) cw (xw j) (xw k)) ∙ roots j l)
      (λ e. other (apart j k l inside (same_from_xor (x j) (x k) e)))

  -- its own root isn't
  pub quotient_own : horner n (quotient (x k) c) (x k) ≢ 0
  quotient_own own =
      too_many_roots n (quotient (x k) c) x (quotient-lt (x k) c (xw k) cw) xw (quotient_lead (x k) c ∙ one) apart
      (λ j l. elim (cases_eq j k) [
        | inl same ↦ ap (λ j. horner n (quotient (x k) c) (x j)) same ∙ own
        | inr other ↦ quotient_root j l other
      ])

  -- so the sum of the words with the quotient's coefficients is the weight times the quotient's value
  pub weight_by_division : (w s : ℕ → ℕ) → AllWords w → ((m : ℕ) → m < suc n → s m ≡ power_sum (suc n) m w x)
      → xor_below (suc n) (λ i. quotient (x k) c i ⊗ s (n - i)) ≡ w k ⊗ horner n (quotient (x k) c) (x k)
  weight_by_division w s ww made =
      let q : ℕ → ℕ = quotient (x k) c in
      let none : n - n ≡ 0 = omega arith in
      xor_below-same (suc n) (λ i. quotient (x k) c i ⊗ s (n - i)) (λ i. quotient (x k) c i ⊗ power_sum (suc n) (n - i) w x)
      (λ i l. ap (λ z. quotient (x k) c i ⊗ z) (made (n - i) (omega arith)))
      ∙ convolved (suc n) w x ww xw n n (quotient (x k) c) (quotient-lt (x k) c (xw k) cw) (omega arith)
      ∙ only_term (suc n) k (λ j. (w j ⊗ horner n (quotient (x k) c) (x j)) ⊗ power (x j) (n - n)) inside
      (λ j l other. ap (λ z. (w j ⊗ z) ⊗ power (x j) (n - n)) (quotient_root j l other) ∙ ap (λ z. z ⊗ power (x j) (n - n)) (product-zero (w j)) ∙ zero-product (power (x j) (n - n)))
      ∙ ap (λ m. (w k ⊗ horner n (quotient (x k) c) (x k)) ⊗ power (x k) m) none ∙ ap (λ z. (w k ⊗ horner n (quotient (x k) c) (x k)) ⊗ z) (power-zero (x k))
      ∙ product-one (w k ⊗ horner n (quotient (x k) c) (x k)) (product-lt (w k) (horner n (quotient (x k) c) (x k)) (ww k))

-- a weight that is 0 makes a shorter register: the quotient
quotient_with_one : (r : ℕ) (c : ℕ → ℕ) → (i : ℕ) → with_one (λ i. quotient r (with_one c) (suc i)) i ≡ quotient r (with_one c) i
unfolding with_one
quotient_with_one r c zero = sym (quotient_lead r (with_one c) ∙ lead c)
quotient_with_one r c (suc i) = refl

pub zero_weight : (p n : ℕ) (c x w s : ℕ → ℕ) → AllWords c → AllWords x → AllWords w → AllWords s → Apart (suc n) x
    → ((k : ℕ) → k < suc n → horner (suc n) (with_one c) (x k) ≡ 0) → ((m : ℕ) → m < p → s m ≡ power_sum (suc n) m w x)
    → (k : ℕ) → k < suc n → w k ≡ 0 → Generates p n (λ i. quotient (x k) (with_one c) (suc i)) s
zero_weight p n c x w s cw xw ww sw apart roots made k inside none =
    weighted_generates p n (λ i. quotient (x k) (with_one c) (suc i)) x (λ i. quotient-lt (x k) (with_one c) (xw k) (with_one_word c cw) (suc i)) xw (suc n) w s ww sw made
    (λ j l.
    let value : horner n (with_one (λ i. quotient (x k) (with_one c) (suc i))) (x j) ≡ horner n (quotient (x k) (with_one c)) (x j) =
    horner-same n (with_one (λ i. quotient (x k) (with_one c) (suc i))) (quotient (x k) (with_one c)) (x j) (quotient_with_one (x k) c) in
    elim (cases_eq j k) [
      | inl same ↦ ap (λ z. z ⊗ horner n (with_one (λ i. quotient (x k) (with_one c) (suc i))) (x j)) (ap w same ∙ none) ∙ zero-product (horner n (with_one (λ i. quotient (x k) (with_one c) (suc i))) (x j))
      | inr other ↦
          ap (λ z. w j ⊗ z) (value ∙ quotient_root n (with_one c) x (with_one_word c cw) xw (lead c) apart roots k inside j l other)
          ∙ product-zero (w j)
    ])
