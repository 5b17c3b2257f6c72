-- Laws of texts: one digit more, one field more.
use Rattle.std.proofs.Common.{◌≡◌, ℕ, zero, suc, ◌+◌, ◌-◌, ◌*◌, ◌/◌, ◌%◌, ◌^◌, List, [], ◌∷◌, ◌++◌, map, get_or, refl, sym, ap, ◌∙◌, arith}
use Rattle.std.specs.List.{flat_map, range_with_len}
use Rattle.std.proofs.lemmas.List.{flat_map_more}
use Rattle.std.proofs.lemmas.List.FromFn.{map-range_with_len_more}
use Rattle.std.proofs.Math.Nat.{pow-suc}
use Rattle.std.proofs.lemmas.Nat.{pow-add}
use Rattle.disc_toc.specs.Toc.{Toc}
use Rattle.disc_ids.specs.Texts.{hex_digit, hex_digits, later_starts, track_field, track_fields}
use Rattle.disc_ids.proofs.NumberLaws.{range-more}

-- a shift by four bits for each digit divides by a power of 16
pub sixteens : (k : ℕ) → 2 ^ (4 * k) ≡ 16 ^ k
sixteens zero = refl
sixteens (suc k) =
    let split : 4 * suc k ≡ 4 * k + 4 = omega arith in
    ap (λ e. 2 ^ e) split ∙ pow-add 2 (4 * k) 4 ∙ ap (λ p. p * 16) (sixteens k) ∙ sym (pow-suc 16 k)

-- the first digits of those of a number
abbrev pub digits_before : ℕ → ℕ → ℕ → List ℕ
digits_before count n i = map (λ k. hex_digit (n / 16 ^ (count - 1 - k) % 16)) (range_with_len 0 i)

pub digits_before-more : (count n i : ℕ) → digits_before count n (i + 1) ≡ digits_before count n i ++ hex_digit (n / 2 ^ (4 * (count - 1 - i)) % 16) ∷ []
digits_before-more count n i =
    map-range_with_len_more (λ k. hex_digit (n / 16 ^ (count - 1 - k) % 16)) 0 i i (omega arith)
    ∙ ap (λ p. digits_before count n i ++ hex_digit (n / p % 16) ∷ []) (sym (sixteens (count - 1 - i)))

pub digits_before-all : (count n : ℕ) → digits_before count n count ≡ hex_digits count n
unfolding hex_digits
digits_before-all count n = refl

pub track_fields-none : (toc : Toc) → track_fields toc 0 ≡ []
unfolding track_fields
track_fields-none toc = refl

-- one more field after a text
pub track_fields-more : (toc : Toc) (text : List ℕ) (n : ℕ) → (text ++ track_fields toc n) ++ hex_digits 8 (track_field toc (n + 1)) ≡ text ++ track_fields toc (n + 1)
unfolding track_fields
track_fields-more toc text n =
    let next : n + 1 ≡ 1 + n = omega arith in
    ap (λ t. (text ++ flat_map (λ i. hex_digits 8 (track_field toc i)) (range_with_len 1 n)) ++ hex_digits 8 (track_field toc t)) next
    ∙ flat_map_more (λ i. hex_digits 8 (track_field toc i)) text (range_with_len 1 n) (1 + n)
    ∙ ap (λ ts. text ++ flat_map (λ i. hex_digits 8 (track_field toc i)) ts) (sym (range-more 1 n))

pub later_starts-none : (starts : List ℕ) → later_starts starts 0 ≡ []
unfolding later_starts
later_starts-none starts = refl

pub later_starts-more : (starts : List ℕ) (text : List ℕ) (n : ℕ) → (text ++ later_starts starts n) ++ hex_digits 8 (get_or starts (n + 1) 0 - get_or starts 0 0) ≡ text ++ later_starts starts (n + 1)
unfolding later_starts
later_starts-more starts text n =
    let next : n + 1 ≡ 2 + n - 1 = omega arith in
    ap (λ k. (text ++ flat_map (λ t. hex_digits 8 (get_or starts (t - 1) 0 - get_or starts 0 0)) (range_with_len 2 n)) ++ hex_digits 8 (get_or starts k 0 - get_or starts 0 0)) next
    ∙ flat_map_more (λ t. hex_digits 8 (get_or starts (t - 1) 0 - get_or starts 0 0)) text (range_with_len 2 n) (2 + n)
    ∙ ap (λ ts. text ++ flat_map (λ t. hex_digits 8 (get_or starts (t - 1) 0 - get_or starts 0 0)) ts) (sym (range-more 2 n))
