-- Polynomials by Horner's rule, their division at a point, and how many roots they have.
use Rattle.std.proofs.Common.{◌≡◌, ℕ, zero, suc, ◌-◌, ◌^◌, ◌<◌, refl, sym, ap, ap₂, ◌∙◌, arith}
use Rattle.std.specs.Int.Bits.{xor_assoc, xor_self, xor_zero_r}
use Rattle.std.proofs.lemmas.Nat.{xor_comm, xor_lt}
use Rattle.gf16_field.specs.Xor.{◌⊕◌, xor_below}
use Rattle.gf16_field.specs.Gf16.{◌⊗◌, power}
use Rattle.gf16_field.proofs.XorLaws.{xor_below-same, same_from_xor, xor_swap_middle}
use Rattle.gf16_field.proofs.FieldLaws.{product_additive_left, product_additive_right, product-lt}
use Rattle.gf16_field.proofs.PowerLaws.{zero-product, product-one, power-zero, power-suc, power-lt, product_zero_cases}
use Rattle.gf16_field.proofs.ColumnLaws.{product_swap_left}
use Rattle.gf16_field.proofs.SumLaws.{times-xor_below}
use Rattle.gf16_poly.specs.Division.{horner, quotient}
use Rattle.gf16_poly.specs.Register.{AllWords, Apart}

-- ---- a polynomial c 0 y^n + c 1 y^(n - 1) + .. + c n, by Horner's rule and as a sum

pub horner-lt : (n : ℕ) (c : ℕ → ℕ) (y : ℕ) → AllWords c → y < 2 ^ 16 → horner n c y < 2 ^ 16
horner-lt zero c y cw yw = cw 0
horner-lt (suc n) c y cw yw = xor_lt 16 (y ⊗ horner n c y) (c (suc n)) (product-lt y (horner n c y) yw) (cw (suc n))

-- polynomials with the same coefficients have the same value
pub horner-same : (n : ℕ) (c d : ℕ → ℕ) (y : ℕ) → ((i : ℕ) → c i ≡ d i) → horner n c y ≡ horner n d y
horner-same zero c d y e = e 0
horner-same (suc n) c d y e = ap₂ (λ a b. y ⊗ a ⊕ b) (horner-same n c d y e) (e (suc n))

pub horner-sum : (n : ℕ) (c : ℕ → ℕ) (y : ℕ) → AllWords c → y < 2 ^ 16 → horner n c y ≡ xor_below (suc n) (λ i. c i ⊗ power y (n - i))
horner-sum zero c y cw yw = sym (ap (λ z. c 0 ⊗ z) (power-zero y) ∙ product-one (c 0) (cw 0))
horner-sum (suc n) c y cw yw =
    ap₂ (λ a b. a ⊕ b)
    (ap (λ z. y ⊗ z) (horner-sum n c y cw yw) ∙ times-xor_below y (suc n) (λ i. c i ⊗ power y (n - i))
    ∙ xor_below-same (suc n) (λ i. y ⊗ (c i ⊗ power y (n - i))) (λ i. c i ⊗ power y (suc n - i))
    (λ i l.
    let up : suc n - i ≡ suc (n - i) = omega arith in
    product_swap_left y (c i) (power y (n - i)) yw (cw i) (power-lt y (n - i) yw)
    ∙ ap (λ z. c i ⊗ z) (sym (power-suc y (n - i)) ∙ ap (power y) (sym up))))
    (let none : suc n - suc n ≡ 0 = omega arith in
    sym (ap (λ k. c (suc n) ⊗ power y k) none ∙ ap (λ z. c (suc n) ⊗ z) (power-zero y) ∙ product-one (c (suc n)) (cw (suc n))))

-- ---- division by y + r

pub quotient-lt : (r : ℕ) (c : ℕ → ℕ) → r < 2 ^ 16 → AllWords c → AllWords (quotient r c)
unfolding quotient
quotient-lt r c rw cw zero = cw 0
quotient-lt r c rw cw (suc i) = xor_lt 16 (c (suc i)) (r ⊗ quotient r c i) (cw (suc i)) (product-lt r (quotient r c i) rw)

pub divided : (n r : ℕ) (c : ℕ → ℕ) (y : ℕ) → AllWords c → y < 2 ^ 16 → r < 2 ^ 16
    → horner (suc n) c y ≡ (y ⊕ r) ⊗ horner n (quotient r c) y ⊕ quotient r c (suc n)
unfolding quotient
divided zero r c y cw yw rw =
    ap (λ z. z ⊕ c 1)
    (sym (ap (λ z. y ⊗ c 0 ⊕ z) (xor_self (r ⊗ c 0)) ∙ xor_zero_r (y ⊗ c 0)) ∙ sym (xor_assoc (y ⊗ c 0) (r ⊗ c 0) (r ⊗ c 0)))
    ∙ xor_assoc (y ⊗ c 0 ⊕ r ⊗ c 0) (r ⊗ c 0) (c 1)
    ∙ ap₂ (λ a b. a ⊕ b) (sym ((product_additive_left (c 0)).sums y r)) (xor_comm (r ⊗ c 0) (c 1))
divided (suc n) r c y cw yw rw =
    let g : ℕ = horner n (quotient r c) y in
    let d : ℕ = quotient r c (suc n) in
    let gw : g < 2 ^ 16 = horner-lt n (quotient r c) y (quotient-lt r c rw cw) yw in
    let step : y ⊗ horner (suc n) c y ≡ (y ⊕ r) ⊗ (y ⊗ g) ⊕ y ⊗ d =
    ap (λ z. y ⊗ z) (divided n r c y cw yw rw) ∙ (product_additive_right y).sums ((y ⊕ r) ⊗ g) d
    ∙ ap (λ z. z ⊕ y ⊗ d) (product_swap_left y (y ⊕ r) g yw (xor_lt 16 y r yw rw) gw) in
    let spread : (y ⊕ r) ⊗ (y ⊗ g ⊕ d) ≡ ((y ⊕ r) ⊗ (y ⊗ g) ⊕ y ⊗ d) ⊕ r ⊗ d =
    (product_additive_right (y ⊕ r)).sums (y ⊗ g) d ∙ ap (λ z. (y ⊕ r) ⊗ (y ⊗ g) ⊕ z) ((product_additive_left d).sums y r)
    ∙ sym (xor_assoc ((y ⊕ r) ⊗ (y ⊗ g)) (y ⊗ d) (r ⊗ d)) in
    let whole : ℕ = (y ⊕ r) ⊗ (y ⊗ g) ⊕ y ⊗ d in
    ap (λ z. z ⊕ c (suc (suc n))) step
    ∙ sym (ap (λ z. z ⊕ (c (suc (suc n)) ⊕ r ⊗ d)) spread
    ∙ xor_swap_middle whole (r ⊗ d) (c (suc (suc n))) (r ⊗ d)
    ∙ ap (λ z. (whole ⊕ c (suc (suc n))) ⊕ z) (xor_self (r ⊗ d)) ∙ xor_zero_r (whole ⊕ c (suc (suc n))))

pub quotient_lead : (r : ℕ) (c : ℕ → ℕ) → quotient r c 0 ≡ c 0
unfolding quotient
quotient_lead r c = refl

-- ---- a polynomial with leading coefficient 1 has no more roots than its degree

pub too_many_roots : (n : ℕ) (c x : ℕ → ℕ) → AllWords c → AllWords x → c 0 ≡ 1 → Apart (suc n) x → ((k : ℕ) → k < suc n → horner n c (x k) ≡ 0) → ⊥
too_many_roots zero c x cw xw lead apart roots = let e : c 0 ≡ 0 = roots 0 (omega arith) in omega arith
too_many_roots (suc n) c x cw xw lead apart roots =
    let r : ℕ = x (suc n) in
    let q : ℕ → ℕ = quotient r c in
    let qw : AllWords q = quotient-lt r c (xw (suc n)) cw in
    let remainder : q (suc n) ≡ 0 =
    sym (ap (λ z. z ⊕ q (suc n)) (ap (λ z. z ⊗ horner n q r) (xor_self r) ∙ zero-product (horner n q r)))
    ∙ sym (divided n r c r cw (xw (suc n)) (xw (suc n))) ∙ roots (suc n) (omega arith) in
    too_many_roots n q x qw xw (quotient_lead r c ∙ lead) (λ i j p s. apart i j (omega arith) (omega arith))
    (λ k l.
    product_zero_cases (x k ⊕ r) (horner n q (x k)) (xor_lt 16 (x k) r (xw k) (xw (suc n))) (horner-lt n q (x k) qw (xw k))
    (sym (xor_zero_r ((x k ⊕ r) ⊗ horner n q (x k))) ∙ ap (λ z. (x k ⊕ r) ⊗ horner n q (x k) ⊕ z) (sym remainder)
    ∙ sym (divided n r c (x k) cw (xw k) (xw (suc n))) ∙ roots k (omega arith))
    (λ e. (let same : k ≡ suc n = apart k (suc n) (omega arith) (omega arith) (same_from_xor (x k) r e) in absurd (omega arith))))
