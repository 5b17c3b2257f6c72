-- Polynomials over the field of 65,536 words, and shift registers: a length, and for each i below it the coefficient of x^(i + 1).
use Rattle.std.specs.Prelude.{◌≡◌, ℕ, zero, suc, ◌-◌, ◌<◌, ◌≤◌, ◌^◌}
use Rattle.gf16_field.specs.Xor.{◌⊕◌, xor_below}
use Rattle.gf16_field.specs.Gf16.{◌⊗◌, power}

-- every value of f is a word
abbrev pub AllWords : (ℕ → ℕ) → Type 0
AllWords f = (i : ℕ) → f i < 2 ^ 16

-- each of the first count words of s, from the one at len on, is the sum that the register makes of the len words before it
abbrev pub Generates : ℕ → ℕ → (ℕ → ℕ) → (ℕ → ℕ) → Type 0
Generates count len coef s = (n : ℕ) → len ≤ n → n < count → s n ≡ xor_below len (λ i. coef i ⊗ s (n - 1 - i))

-- the coefficients of 1 + coef 0 x + coef 1 x^2 + .., the polynomial of a register
unfoldable pub with_one : (ℕ → ℕ) → ℕ → ℕ
with_one coef zero = 1
with_one coef (suc i) = coef i

-- the value at x of f 0 + f 1 x + .. + f (n - 1) x^(n - 1)
abbrev pub value_at : ℕ → (ℕ → ℕ) → ℕ → ℕ
value_at n f x = xor_below n (λ i. f i ⊗ power x i)

-- coefficient n of the product of the polynomials f 0 + f 1 x + .. and g 0 + g 1 x + ..
abbrev pub times_at : (ℕ → ℕ) → (ℕ → ℕ) → ℕ → ℕ
times_at f g n = xor_below (suc n) (λ i. f i ⊗ g (n - i))

-- the discrepancy at word n: by how much the register of the first len coefficients misses it
unfoldable pub discrepancy_at : ℕ → (ℕ → ℕ) → (ℕ → ℕ) → ℕ → ℕ
discrepancy_at len coef s n = s n ⊕ xor_below len (λ i. coef i ⊗ s (n - 1 - i))

-- coefficient i of the locator polynomial, which is the product of 1 + x k * X over k < n
unfoldable pub locator : ℕ → (ℕ → ℕ) → ℕ → ℕ
locator zero x zero = 1
locator zero x (suc i) = 0
locator (suc n) x zero = locator n x zero
locator (suc n) x (suc i) = locator n x (suc i) ⊕ x n ⊗ locator n x i

-- the words x k for k < n are apart
abbrev pub Apart : ℕ → (ℕ → ℕ) → Type 0
Apart n x = (i j : ℕ) → i < n → j < n → x i ≡ x j → i ≡ j

-- the sum of the n powers m of the words x k, each with its weight w k
abbrev pub power_sum : ℕ → ℕ → (ℕ → ℕ) → (ℕ → ℕ) → ℕ
power_sum n m w x = xor_below n (λ k. w k ⊗ power (x k) m)
