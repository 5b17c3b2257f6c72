-- The locator polynomial: its roots are the inverses of its places, and no others.
use Rattle.std.proofs.Common.{◌≡◌, ℕ, zero, suc, ◌^◌, ◌<◌, inl, inr, refl, sym, ap, ap₂, ◌∙◌, arith}
use Rattle.std.specs.Int.Bits.{xor_assoc, xor_self, xor_zero_r}
use Rattle.std.proofs.lemmas.Nat.{xor_lt}
use Rattle.std.proofs.lemmas.Bool.{cases_lt, cases_eq}
use Rattle.gf16_field.specs.Xor.{◌⊕◌}
use Rattle.gf16_field.specs.Gf16.{◌⊗◌}
use Rattle.gf16_field.proofs.XorLaws.{same_from_xor, xor_swap_middle}
use Rattle.gf16_field.proofs.FieldLaws.{product_additive_left, product_additive_right, product-lt}
use Rattle.gf16_field.proofs.PowerLaws.{zero-product, product-zero, product_zero_cases}
use Rattle.gf16_field.proofs.ColumnLaws.{product_swap_left}
use Rattle.gf16_poly.specs.Register.{AllWords, with_one, locator}
use Rattle.gf16_poly.specs.Division.{horner}
use Rattle.gf16_poly.proofs.Roots.{horner-lt}

pub locator-zero : (n : ℕ) (x : ℕ → ℕ) → locator n x 0 ≡ 1
unfolding locator
locator-zero zero x = refl
locator-zero (suc n) x = locator-zero n x

pub locator-lt : (n : ℕ) (x : ℕ → ℕ) → AllWords x → AllWords (locator n x)
unfolding locator
locator-lt zero x xw zero = omega arith
locator-lt zero x xw (suc i) = omega arith
locator-lt (suc n) x xw zero = locator-lt n x xw zero
locator-lt (suc n) x xw (suc i) = xor_lt 16 (locator n x (suc i)) (x n ⊗ locator n x i) (locator-lt n x xw (suc i)) (product-lt (x n) (locator n x i) (xw n))

pub locator_past : (n : ℕ) (x : ℕ → ℕ) (i : ℕ) → n < i → locator n x i ≡ 0
unfolding locator
locator_past n x zero l = absurd (omega arith)
locator_past zero x (suc i) l = refl
locator_past (suc n) x (suc i) l =
    ap₂ (λ a b. a ⊕ x n ⊗ b) (locator_past n x (suc i) (omega arith)) (locator_past n x i (omega arith)) ∙ product-zero (x n)

horner-more : (m n : ℕ) (x : ℕ → ℕ) (y : ℕ) → AllWords x → y < 2 ^ 16
    → horner (suc m) (locator (suc n) x) y ≡ horner (suc m) (locator n x) y ⊕ x n ⊗ horner m (locator n x) y
unfolding locator
horner-more zero n x y xw yw = sym (xor_assoc (y ⊗ locator n x 0) (locator n x 1) (x n ⊗ locator n x 0))
horner-more (suc m) n x y xw yw =
    let r : ℕ = x n in
    let c : ℕ → ℕ = locator n x in
    let low : ℕ = horner m c y in
    ap (λ z. z ⊕ (c (suc (suc m)) ⊕ r ⊗ c (suc m)))
    (ap (λ z. y ⊗ z) (horner-more m n x y xw yw) ∙ (product_additive_right y).sums (horner (suc m) c y) (r ⊗ low)
    ∙ ap (λ z. y ⊗ horner (suc m) c y ⊕ z) (product_swap_left y r low yw (xw n) (horner-lt m c y (locator-lt n x xw) yw)))
    ∙ xor_swap_middle (y ⊗ horner (suc m) c y) (r ⊗ (y ⊗ low)) (c (suc (suc m))) (r ⊗ c (suc m))
    ∙ ap (λ z. (y ⊗ horner (suc m) c y ⊕ c (suc (suc m))) ⊕ z) (sym ((product_additive_right r).sums (y ⊗ low) (c (suc m))))

pub root_more : (n : ℕ) (x : ℕ → ℕ) (y : ℕ) → AllWords x → y < 2 ^ 16 → horner (suc n) (locator (suc n) x) y ≡ (y ⊕ x n) ⊗ horner n (locator n x) y
root_more n x y xw yw =
    horner-more n n x y xw yw
    ∙ ap (λ z. z ⊕ x n ⊗ horner n (locator n x) y) (ap (λ z. y ⊗ horner n (locator n x) y ⊕ z) (locator_past n x (suc n) (omega arith)) ∙ xor_zero_r (y ⊗ horner n (locator n x) y))
    ∙ sym ((product_additive_left (horner n (locator n x) y)).sums y (x n))

pub locator_roots : (n : ℕ) (x : ℕ → ℕ) (k : ℕ) → AllWords x → k < n → horner n (locator n x) (x k) ≡ 0
locator_roots zero x k xw l = absurd (omega arith)
locator_roots (suc n) x k xw l =
    root_more n x (x k) xw (xw k)
    ∙ elim (cases_lt k n) [
      | inl below ↦ ap (λ z. (x k ⊕ x n) ⊗ z) (locator_roots n x k xw below) ∙ product-zero (x k ⊕ x n)
      | inr above ↦
          let last : k ≡ n = omega arith in
          ap (λ k. (x k ⊕ x n) ⊗ horner n (locator n x) (x k)) last ∙ ap (λ z. z ⊗ horner n (locator n x) (x n)) (xor_self (x n)) ∙ zero-product (horner n (locator n x) (x n))
    ]

pub with_one_locator : (n : ℕ) (x : ℕ → ℕ) (i : ℕ) → with_one (λ i. locator n x (suc i)) i ≡ locator n x i
unfolding with_one
with_one_locator n x zero = sym (locator-zero n x)
with_one_locator n x (suc i) = refl

pub lead : (c : ℕ → ℕ) → with_one c 0 ≡ 1
unfolding with_one
lead c = refl

-- a root of the product is one of its places
pub root_is_place : (n : ℕ) (x : ℕ → ℕ) (y : ℕ) → AllWords x → y < 2 ^ 16 → horner n (locator n x) y ≡ 0 → (k : ℕ) × (k < n) × (y ≡ x k)
unfolding locator
root_is_place zero x y xw yw root = absurd (let e : 1 ≡ 0 = root in omega arith)
root_is_place (suc n) x y xw yw root =
    elim (cases_eq y (x n)) [
      | inl here ↦ (n, omega arith, here)
      | inr elsewhere ↦
          let below =
          root_is_place n x y xw yw
          (product_zero_cases (y ⊕ x n) (horner n (locator n x) y) (xor_lt 16 y (x n) yw (xw n)) (horner-lt n (locator n x) y (locator-lt n x xw) yw)
          (sym (root_more n x y xw yw) ∙ root) (λ e. elsewhere (same_from_xor y (x n) e))) in
          (below.0, (let l : below.0 < n = below.1 in omega arith), below.2)
    ]
