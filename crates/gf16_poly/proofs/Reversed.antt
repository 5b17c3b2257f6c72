-- The reversed polynomial: it is 0 at a word where the polynomial is 0 at the word's inverse.
use Rattle.std.proofs.Common.{◌≡◌, ◌≢◌, ℕ, suc, ◌+◌, ◌-◌, ◌^◌, ◌<◌, sym, ap, ◌∙◌, arith}
use Rattle.gf16_field.specs.Gf16.{◌⊗◌, power}
use Rattle.gf16_field.proofs.XorLaws.{xor_below-same}
use Rattle.gf16_field.proofs.FieldLaws.{product_assoc}
use Rattle.gf16_field.proofs.PowerLaws.{power-lt, power-add, product-zero, product-one, product_zero_cases}
use Rattle.gf16_field.proofs.PowerRules.{power_back}
use Rattle.gf16_field.proofs.ColumnLaws.{product_swap_left}
use Rattle.gf16_field.proofs.SumLaws.{times-xor_below}
use Rattle.gf16_field.proofs.Walk.{power_nonzero}
use Rattle.gf16_poly.specs.Register.{AllWords, value_at}
use Rattle.gf16_poly.specs.Division.{horner}
use Rattle.gf16_poly.proofs.Roots.{horner-sum}

module _ (n : ℕ) (c : ℕ → ℕ) (x y : ℕ) (cw : AllWords c) (xw : x < 2 ^ 16) (yw : y < 2 ^ 16) (back : x ⊗ y ≡ 1) where
  -- a power of x times a smaller power of y
  power_less : (i : ℕ) → i < suc n → power x n ⊗ power y i ≡ power x (n - i)
  power_less i l =
      let parts : n ≡ (n - i) + i = omega arith in
      ap (λ m. power x m ⊗ power y i) parts ∙ ap (λ z. z ⊗ power y i) (power-add x (n - i) i xw)
      ∙ product_assoc (power x (n - i)) (power x i) (power y i) (power-lt x (n - i) xw) (power-lt x i xw) (power-lt y i yw)
      ∙ ap (λ z. power x (n - i) ⊗ z) (power_back x y i xw yw back) ∙ product-one (power x (n - i)) (power-lt x (n - i) xw)

  -- x^n times the value at the inverse of x
  pub reversed : power x n ⊗ value_at (suc n) c y ≡ horner n c x
  reversed =
      times-xor_below (power x n) (suc n) (λ i. c i ⊗ power y i)
      ∙ xor_below-same (suc n) (λ i. power x n ⊗ (c i ⊗ power y i)) (λ i. c i ⊗ power x (n - i))
      (λ i l. product_swap_left (power x n) (c i) (power y i) (power-lt x n xw) (cw i) (power-lt y i yw) ∙ ap (λ z. c i ⊗ z) (power_less i l))
      ∙ sym (horner-sum n c x cw xw)

  pub reversed_zero : value_at (suc n) c y ≡ 0 → horner n c x ≡ 0
  reversed_zero zero = sym reversed ∙ ap (λ z. power x n ⊗ z) zero ∙ product-zero (power x n)

  pub zero_reversed : x ≢ 0 → value_at (suc n) c y < 2 ^ 16 → horner n c x ≡ 0 → value_at (suc n) c y ≡ 0
  zero_reversed some word zero =
      product_zero_cases (power x n) (value_at (suc n) c y) (power-lt x n xw) word (reversed ∙ zero) (power_nonzero x n xw some)
