-- Laws of sums of digits, and of sums over numbers from 1 on.
use Rattle.std.proofs.Common.{◌≡◌, ℕ, ◌+◌, ◌/◌, ◌%◌, ◌<◌, [], ◌∷◌, ◌++◌, refl, sym, ap, ◌∙◌, arith}
use Rattle.std.specs.Int.Digits.{digits_of}
use Rattle.std.specs.List.{range_with_len, sum, sum_by}
use Rattle.std.proofs.lemmas.Int.Digits.{digits_of_step}
use Rattle.std.proofs.lemmas.List.{map-id}
use Rattle.std.proofs.lemmas.List.FromFn.{map-range_with_len_more}
use Rattle.std.proofs.lemmas.List.Sums.{sum_by_push}
use Rattle.disc_ids.specs.Numbers.{digit_sum}

pub range-more : (a n : ℕ) → range_with_len a (n + 1) ≡ range_with_len a n ++ (a + n) ∷ []
range-more a n =
    sym (map-id (range_with_len a (n + 1))) ∙ map-range_with_len_more (λ i. i) a n (a + n) refl
    ∙ ap (λ xs. xs ++ (a + n) ∷ []) (map-id (range_with_len a n))

pub sum-more : (f : ℕ → ℕ) (n : ℕ) → sum_by f (range_with_len 1 (n + 1)) ≡ sum_by f (range_with_len 1 n) + f (n + 1)
sum-more f n =
    let next : 1 + n ≡ n + 1 = omega arith in
    ap (sum_by f) (range-more 1 n) ∙ sum_by_push f (range_with_len 1 n) (1 + n) ∙ ap (λ i. sum_by f (range_with_len 1 n) + f i) next

pub digit_sum-none : digit_sum 0 ≡ 0
unfolding digit_sum
digit_sum-none = refl

pub digit_sum-step : (n : ℕ) → 0 < n → digit_sum n ≡ digit_sum (n / 10) + n % 10
unfolding digit_sum
digit_sum-step n some = ap sum (digits_of_step 10 n (omega arith) some) ∙ sum_by_push (λ d. d) (digits_of 10 (n / 10)) (n % 10)
