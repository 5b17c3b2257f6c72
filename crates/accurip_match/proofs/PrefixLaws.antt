-- Laws of the sums up to a place.
use Rattle.std.proofs.Common.{◌≡◌, ℕ, zero, suc, ◌+◌, ◌-◌, ◌*◌, ◌%◌, ◌^◌, ◌<◌, ◌≤◌, List, [], ◌∷◌, ◌++◌, length, get_or, refl, sym, ap, ap₂, ◌∙◌, arith, add-one, inl, inr, length-append}
use Rattle.std.specs.List.{range_with_len, sum_by}
use Rattle.std.proofs.lemmas.Bool.{cases_lt, cond-false, cond-true, le-ltb, lt-ltb}
use Rattle.std.proofs.lemmas.List.{get_or_append_left, get_or-append_right, get_or_past}
use Rattle.std.proofs.lemmas.Nat.{mul-mod_second}
use Rattle.accurip_sums.specs.Track.{sample}
use Rattle.disc_ids.proofs.NumberLaws.{sum-more}
use Rattle.accurip_match.specs.declared.prefix.Prefix.{Prefix}
use Rattle.accurip_match.specs.Slider.{PrefixStandsFor, late_sample, prefix_of, product_sum, value_sum}

-- ---- sums over the numbers from 1 on

pub sum-next : (f : ℕ → ℕ) (n : ℕ) → sum_by f (range_with_len 1 (suc n)) ≡ sum_by f (range_with_len 1 n) + f (suc n)
sum-next f n = ap (λ m. sum_by f (range_with_len 1 m)) (sym (add-one n)) ∙ sum-more f n ∙ ap (λ m. sum_by f (range_with_len 1 n) + f m) (add-one n)

pub sum-same : (f g : ℕ → ℕ) (n : ℕ) → ((i : ℕ) → 1 ≤ i → i ≤ n → f i ≡ g i) → sum_by f (range_with_len 1 n) ≡ sum_by g (range_with_len 1 n)
sum-same f g zero same = refl
sum-same f g (suc n) same =
    sum-next f n ∙ ap₂ (λ a b. a + b) (sum-same f g n (λ i low high. same i low (omega arith))) (same (suc n) (omega arith) (omega arith)) ∙ sym (sum-next g n)

pub sum-zero : (f : ℕ → ℕ) (n : ℕ) → ((i : ℕ) → 1 ≤ i → i ≤ n → f i ≡ 0) → sum_by f (range_with_len 1 n) ≡ 0
sum-zero f zero none = refl
sum-zero f (suc n) none =
    let before : sum_by f (range_with_len 1 n) ≡ 0 = sum-zero f n (λ i low high. none i low (omega arith)) in
    let last : f (suc n) ≡ 0 = none (suc n) (omega arith) (omega arith) in
    omega (arith, sum-next f n)

-- a sum of which nothing more comes
pub sum-past : (f : ℕ → ℕ) (n m : ℕ) → ((i : ℕ) → n < i → i ≤ n + m → f i ≡ 0) → sum_by f (range_with_len 1 (n + m)) ≡ sum_by f (range_with_len 1 n)
sum-past f n zero none = let here : n + 0 ≡ n = omega arith in ap (λ k. sum_by f (range_with_len 1 k)) here
sum-past f n (suc m) none =
    let next : n + suc m ≡ suc (n + m) = omega arith in
    let last : f (suc (n + m)) ≡ 0 = none (suc (n + m)) (omega arith) (omega arith) in
    let before : sum_by f (range_with_len 1 (n + m)) ≡ sum_by f (range_with_len 1 n) = sum-past f n m (λ i low high. none i low (omega arith)) in
    ap (λ k. sum_by f (range_with_len 1 k)) next ∙ omega (arith, sum-next f (n + m))

-- ---- samples

pub late-silent : (y : List ℕ) (h : ℕ) → h ≤ 2939 → late_sample y h ≡ 0
late-silent y h silent = cond-false _ (sample y (h - 2939)) 0 (le-ltb 2939 h silent)

pub late-heard : (y : List ℕ) (h : ℕ) → 2939 < h → late_sample y h ≡ sample y (h - 2939)
late-heard y h heard = cond-true _ (sample y (h - 2939)) 0 (lt-ltb 2939 h heard)

late-past : (y : List ℕ) (n h : ℕ) → length y + 5878 ≡ 2 * n → n < h → late_sample y h ≡ 0
late-past y n h whole past =
    late-heard y h (omega arith)
    ∙ ap₂ (λ a b. a + 65536 * b) (get_or_past y (2 * (h - 2939 - 1)) 0 (omega arith)) (get_or_past y (2 * (h - 2939 - 1) + 1) 0 (omega arith))

late-before : (y w : List ℕ) (h : ℕ) → 2 * h ≤ length y + 5878 → late_sample (y ++ w) h ≡ late_sample y h
late-before y w h before =
    elim (cases_lt 2939 h) [
      | inl heard ↦
          late-heard (y ++ w) h heard
          ∙ ap₂ (λ a b. a + 65536 * b) (get_or_append_left y w 0 (2 * (h - 2939 - 1)) (omega arith)) (get_or_append_left y w 0 (2 * (h - 2939 - 1) + 1) (omega arith))
          ∙ sym (late-heard y h heard)
      | inr silent ↦ late-silent (y ++ w) h silent ∙ sym (late-silent y h silent)
    ]

late-next : (y : List ℕ) (left right n : ℕ) → length y + 5878 ≡ 2 * n → late_sample (y ++ left ∷ right ∷ []) (n + 1) ≡ left + 65536 * right
late-next y left right n whole =
    let here : 2 * (n + 1 - 2939 - 1) - length y ≡ 0 = omega arith in
    let past : 2 * (n + 1 - 2939 - 1) + 1 - length y ≡ 1 = omega arith in
    late-heard (y ++ left ∷ right ∷ []) (n + 1) (omega arith)
    ∙ ap₂ (λ a b. a + 65536 * b)
    (get_or-append_right y (left ∷ right ∷ []) (length y) (2 * (n + 1 - 2939 - 1)) 0 refl (omega arith) ∙ ap (λ i. get_or (left ∷ right ∷ []) i 0) here)
    (get_or-append_right y (left ∷ right ∷ []) (length y) (2 * (n + 1 - 2939 - 1) + 1) 0 refl (omega arith) ∙ ap (λ i. get_or (left ∷ right ∷ []) i 0) past)

-- ---- sums up to a place

same_prefix : (a b : Prefix) → a.values ≡ b.values → a.products ≡ b.products → a ≡ b
same_prefix a b one two = let made : ℕ → ℕ → Prefix = λ v w. record { values = v; products = w } in ap₂ made one two

-- words that come later change nothing
pub prefix-append : (y w : List ℕ) (n : ℕ) → 2 * n ≤ length y + 5878 → prefix_of (y ++ w) n ≡ prefix_of y n
unfolding value_sum product_sum
prefix-append y w n before =
    same_prefix (prefix_of (y ++ w) n) (prefix_of y n)
    (ap (λ s. s % 2 ^ 32) (sum-same (late_sample (y ++ w)) (late_sample y) n (λ h low high. late-before y w h (omega arith))))
    (ap (λ s. s % 2 ^ 32) (sum-same (λ h. h * late_sample (y ++ w) h) (λ h. h * late_sample y h) n (λ h low high. ap (λ v. h * v) (late-before y w h (omega arith)))))

-- past the end of a rip nothing more comes
pub prefix-past : (y : List ℕ) (n m : ℕ) → length y + 5878 ≡ 2 * n → n ≤ m → prefix_of y m ≡ prefix_of y n
unfolding value_sum product_sum
prefix-past y n m whole past =
    let more : n + (m - n) ≡ m = omega arith in
    ap (prefix_of y) (sym more)
    ∙ same_prefix (prefix_of y (n + (m - n))) (prefix_of y n)
    (ap (λ s. s % 2 ^ 32) (sum-past (late_sample y) n (m - n) (λ h low high. late-past y n h whole low)))
    (ap (λ s. s % 2 ^ 32) (sum-past (λ h. h * late_sample y h) n (m - n) (λ h low high. ap (λ v. h * v) (late-past y n h whole low) ∙ omega arith)))

-- in the silence nothing has come
pub prefix-silent : (y : List ℕ) (n : ℕ) → n ≤ 2939 → prefix_of y n ≡ record { values = 0; products = 0 }
unfolding value_sum product_sum
prefix-silent y n silent =
    same_prefix (prefix_of y n) (record { values = 0; products = 0 })
    (ap (λ s. s % 2 ^ 32) (sum-zero (late_sample y) n (λ h low high. late-silent y h (omega arith))))
    (ap (λ s. s % 2 ^ 32) (sum-zero (λ h. h * late_sample y h) n (λ h low high. ap (λ v. h * v) (late-silent y h (omega arith)) ∙ omega arith)))

more_within : (s x : ℕ) → (s % 2 ^ 32 + x) % 2 ^ 32 ≡ (s + x) % 2 ^ 32
more_within s x = omega arith

more_within_both : (s x : ℕ) → (s % 2 ^ 32 + x % 2 ^ 32) % 2 ^ 32 ≡ (s + x) % 2 ^ 32
more_within_both s x = omega arith

-- one more sample
pub prefix_next : (prefix : Prefix) (y : List ℕ) (left right n values products : ℕ) → PrefixStandsFor prefix n y
    → values ≡ (prefix.values + (left + 65536 * right)) % 2 ^ 32 → products ≡ (prefix.products + (n + 1) * (left + 65536 * right) % 2 ^ 32) % 2 ^ 32
    → PrefixStandsFor record { values = values; products = products } (n + 1) (y ++ left ∷ right ∷ [])
unfolding value_sum product_sum
prefix_next prefix y left right n values products now one two = record {
  whole = omega (arith, length-append y (left ∷ right ∷ []), now.whole);
  sums = same_prefix (record { values = values; products = products }) (prefix_of (y ++ left ∷ right ∷ []) (n + 1))
      (one ∙ ap (λ v. (v + (left + 65536 * right)) % 2 ^ 32) (ap (λ (p : Prefix). p.values) now.sums) ∙ more_within _ _
      ∙ ap (λ s. s % 2 ^ 32) (ap₂ (λ s x. s + x)
      (sym (sum-same (late_sample (y ++ left ∷ right ∷ [])) (late_sample y) n (λ h low high. late-before y (left ∷ right ∷ []) h (omega (arith, now.whole)))))
      (sym (late-next y left right n now.whole))
      ∙ sym (sum-more (late_sample (y ++ left ∷ right ∷ [])) n)))
      (two ∙ ap (λ v. (v + (n + 1) * (left + 65536 * right) % 2 ^ 32) % 2 ^ 32) (ap (λ (p : Prefix). p.products) now.sums) ∙ more_within_both _ _
      ∙ ap (λ s. s % 2 ^ 32) (ap₂ (λ s x. s + x)
      (sym (sum-same (λ h. h * late_sample (y ++ left ∷ right ∷ []) h) (λ h. h * late_sample y h) n (λ h low high. ap (λ v. h * v) (late-before y (left ∷ right ∷ []) h (omega (arith, now.whole))))))
      (sym (ap (λ v. (n + 1) * v) (late-next y left right n now.whole)))
      ∙ sym (sum-more (λ h. h * late_sample (y ++ left ∷ right ∷ []) h) n)));
}

-- ---- differences modulo 2 ^ 32

less : (a b : ℕ) → ((a % 2 ^ 32 + (2 ^ 32 - b % 2 ^ 32)) % 2 ^ 32 + b) % 2 ^ 32 ≡ a % 2 ^ 32
less a b = omega arith

cancel : (p w c b w' sum r t : ℕ) → (p + w) % 2 ^ 32 ≡ w' % 2 ^ 32 → (r + t) % 2 ^ 32 ≡ p % 2 ^ 32 → (t + b) % 2 ^ 32 ≡ c % 2 ^ 32 → sum + c + w ≡ w' + b → r % 2 ^ 32 ≡ sum % 2 ^ 32
cancel p w c b w' sum r t products rest values total = omega arith

-- the sum of products less the shift, from the sums up to two places
pub difference : (sum shift v w v' w' : ℕ) → sum + shift * v' + w ≡ w' + shift * v
    → ((w' % 2 ^ 32 + (2 ^ 32 - w % 2 ^ 32)) % 2 ^ 32 + (2 ^ 32 - shift * ((v' % 2 ^ 32 + (2 ^ 32 - v % 2 ^ 32)) % 2 ^ 32) % 2 ^ 32)) % 2 ^ 32 ≡ sum % 2 ^ 32
difference sum shift v w v' w' total =
    let values : ℕ = (v' % 2 ^ 32 + (2 ^ 32 - v % 2 ^ 32)) % 2 ^ 32 in
    let products : ℕ = (w' % 2 ^ 32 + (2 ^ 32 - w % 2 ^ 32)) % 2 ^ 32 in
    let rest : ℕ = (products + (2 ^ 32 - shift * values % 2 ^ 32)) % 2 ^ 32 in
    let times : (shift * values + shift * v) % 2 ^ 32 ≡ (shift * v') % 2 ^ 32 =
    ap (λ n. n % 2 ^ 32) (omega arith) ∙ sym (mul-mod_second shift (values + v) (2 ^ 32)) ∙ ap (λ n. (shift * n) % 2 ^ 32) (less v' v) ∙ mul-mod_second shift v' (2 ^ 32) in
    let within : rest % 2 ^ 32 ≡ rest = omega arith in
    sym within ∙ cancel products w (shift * v') (shift * v) w' sum rest (shift * values) (less w' w) (omega arith) times total
