-- Polynomials with the highest coefficient first: their value by Horner's rule, and their division at a point.
use Rattle.std.specs.Prelude.{ℕ, zero, suc}
use Rattle.gf16_field.specs.Xor.{◌⊕◌}
use Rattle.gf16_field.specs.Gf16.{◌⊗◌}

-- the value at y of c 0 y^n + c 1 y^(n - 1) + .. + c n
abbrev pub horner : ℕ → (ℕ → ℕ) → ℕ → ℕ
horner zero c y = c 0
horner (suc n) c y = y ⊗ horner n c y ⊕ c (suc n)

-- the coefficients of its quotient by y + r, the highest first
unfoldable pub quotient : ℕ → (ℕ → ℕ) → ℕ → ℕ
quotient r c zero = c 0
quotient r c (suc i) = c (suc i) ⊕ r ⊗ quotient r c i
