-- Laws of the sums of a track at an offset: they are had from the sums up to its edges.
use Rattle.std.proofs.Common.{◌≡◌, ℕ, zero, suc, ◌+◌, ◌-◌, ◌*◌, ◌/◌, ◌%◌, ◌^◌, ◌<◌, ◌≤◌, Bool, true, false, cond, eqb, ltb, List, length, get_or, refl, sym, ap, ap₂, ◌∙◌, arith, inl, inr, add-one}
use Rattle.std.specs.Prelude.{pos, negsuc, not, ◌&&◌}
use Rattle.std.specs.List.{range_with_len, sum_by}
use Rattle.std.proofs.lemmas.Bool.{and_left, and_right, cases_eq, cases_lt, cond-false, cond-true, eq-eqb, le-ltb, lt-ltb, ne_eqb, not_from_true}
use Rattle.std.proofs.lemmas.List.FromFn.{get_or-map-range_with_len, length-map-range_with_len}
use Rattle.accurip_sums.specs.Track.{counts, counting, sample, sums_at, track_sums, weighted}
use Rattle.accurip_sums.proofs.SumLaws.{sum-more as counted-more, sum-same as counted-same}
use Rattle.disc_toc.specs.Toc.{Toc}
use Rattle.accurip_match.specs.Offsets.{offset_at}
use Rattle.accurip_match.specs.Shifted.{moved_word, shifted_sums, shifted_track, track_end, track_samples, track_start, v1_at}
use Rattle.accurip_match.specs.Slider.{edge_of, late_sample, product_sum, value_sum}
use Rattle.accurip_match.proofs.PrefixLaws.{late-heard, late-silent, sum-next}

-- ---- the numbers that count

-- how many samples don't count at the start of a track, and at its end
abbrev pub margin_before : Bool → ℕ
margin_before first = cond first 2939 0

abbrev pub margin_after : Bool → ℕ
margin_after last = cond last 2940 0

counts-between : (first last : Bool) (samples i : ℕ) → margin_before first < i → i + margin_after last ≤ samples → counts first last samples i ≡ true
counts-between false false samples i above below = refl
counts-between true false samples i above below = ap (λ early. not early && true) (le-ltb i 2940 (omega arith))
counts-between false true samples i above below = ap (λ late. not late) (le-ltb samples (i + 2940) (omega arith))
counts-between true true samples i above below = ap₂ (λ early late. not early && not late) (le-ltb i 2940 (omega arith)) (le-ltb samples (i + 2940) (omega arith))

counts-before : (first last : Bool) (samples i : ℕ) → i ≤ margin_before first → 1 ≤ i → counts first last samples i ≡ false
counts-before true last samples i early some = and_left _ _ (not_from_true _ (lt-ltb i 2940 (omega arith)))
counts-before false last samples i early some = absurd (omega arith)

counts-after : (first last : Bool) (samples i : ℕ) → samples < i + margin_after last → i ≤ samples → counts first last samples i ≡ false
counts-after first true samples i late within = and_right _ _ (not_from_true _ (lt-ltb samples (i + 2940) (omega arith)))
counts-after first false samples i late within = absurd (omega arith)

module _ (first last : Bool) (samples : ℕ) (g : ℕ → ℕ) where
  counted_none : sum_by g (counting first last samples 0) ≡ 0
  unfolding counting
  counted_none = refl

  counted-next : (n : ℕ) → sum_by g (counting first last samples (suc n)) ≡ sum_by g (counting first last samples n) + cond (counts first last samples (suc n)) (g (suc n)) 0
  counted-next n =
      ap (λ k. sum_by g (counting first last samples k)) (sym (add-one n)) ∙ counted-more first last samples g n
      ∙ ap (λ k. sum_by g (counting first last samples n) + cond (counts first last samples k) (g k) 0) (add-one n)

  counted_no : (n : ℕ) → counts first last samples (suc n) ≡ false → sum_by g (counting first last samples (suc n)) ≡ sum_by g (counting first last samples n)
  counted_no n out = counted-next n ∙ ap (λ b. sum_by g (counting first last samples n) + cond b (g (suc n)) 0) out ∙ omega arith

  counted_yes : (n : ℕ) → counts first last samples (suc n) ≡ true → sum_by g (counting first last samples (suc n)) ≡ sum_by g (counting first last samples n) + g (suc n)
  counted_yes n counted = counted-next n ∙ ap (λ b. sum_by g (counting first last samples n) + cond b (g (suc n)) 0) counted

  uncounted : (n : ℕ) → ((i : ℕ) → 1 ≤ i → i ≤ n → counts first last samples i ≡ false) → sum_by g (counting first last samples n) ≡ 0
  uncounted zero none = counted_none
  uncounted (suc n) none = counted_no n (none (suc n) (omega arith) (omega arith)) ∙ uncounted n (λ i low high. none i low (omega arith))

  -- from the first number that counts on
  counted_from : (m : ℕ) → margin_before first + m + margin_after last ≤ samples
      → sum_by g (counting first last samples (margin_before first + m)) + sum_by g (range_with_len 1 (margin_before first)) ≡ sum_by g (range_with_len 1 (margin_before first + m))
  counted_from zero within =
      let here : margin_before first + 0 ≡ margin_before first = omega arith in
      let none : sum_by g (counting first last samples (margin_before first)) ≡ 0 = uncounted (margin_before first) (λ i low high. counts-before first last samples i high low) in
      ap (λ k. sum_by g (counting first last samples k) + sum_by g (range_with_len 1 (margin_before first))) here
      ∙ ap (λ s. s + sum_by g (range_with_len 1 (margin_before first))) none ∙ omega arith
      ∙ ap (λ k. sum_by g (range_with_len 1 k)) (sym here)
  counted_from (suc m) within =
      let low : ℕ = margin_before first in
      let next : low + suc m ≡ suc (low + m) = omega arith in
      let before : sum_by g (counting first last samples (low + m)) + sum_by g (range_with_len 1 low) ≡ sum_by g (range_with_len 1 (low + m)) = counted_from m (omega arith) in
      let one = counted_yes (low + m) (counts-between first last samples (suc (low + m)) (omega arith) (omega arith)) in
      let two = sum-next g (low + m) in
      ap (λ k. sum_by g (counting first last samples k) + sum_by g (range_with_len 1 low)) next
      ∙ omega (arith, one, two, before)
      ∙ ap (λ k. sum_by g (range_with_len 1 k)) (sym next)

  -- past the last number that counts
  counted_past : (top m : ℕ) → top + margin_after last ≡ samples → top + m ≤ samples → sum_by g (counting first last samples (top + m)) ≡ sum_by g (counting first last samples top)
  counted_past top zero end within = let here : top + 0 ≡ top = omega arith in ap (λ k. sum_by g (counting first last samples k)) here
  counted_past top (suc m) end within =
      let next : top + suc m ≡ suc (top + m) = omega arith in
      ap (λ k. sum_by g (counting first last samples k)) next
      ∙ counted_no (top + m) (counts-after first last samples (suc (top + m)) (omega arith) (omega arith))
      ∙ counted_past top m end (omega arith)

  -- those that count are all from the first on up to the last
  sum_counted : margin_before first + margin_after last ≤ samples
      → sum_by g (counting first last samples samples) + sum_by g (range_with_len 1 (margin_before first)) ≡ sum_by g (range_with_len 1 (samples - margin_after last))
  sum_counted within =
      let low : ℕ = margin_before first in
      let top : ℕ = samples - margin_after last in
      let whole : top + (samples - top) ≡ samples = omega arith in
      let up : low + (top - low) ≡ top = omega arith in
      let past = counted_past top (samples - top) (omega arith) (omega arith) in
      ap (λ s. s + sum_by g (range_with_len 1 low)) (ap (λ k. sum_by g (counting first last samples k)) (sym whole) ∙ past ∙ ap (λ k. sum_by g (counting first last samples k)) (sym up))
      ∙ counted_from (top - low) (omega arith) ∙ ap (λ k. sum_by g (range_with_len 1 k)) up

  sum_uncounted : samples ≤ margin_before first + margin_after last → sum_by g (counting first last samples samples) ≡ 0
  sum_uncounted short =
      uncounted samples (λ i low high. elim (cases_lt (margin_before first) i) [
        | inl above ↦ counts-after first last samples i (omega arith) high
        | inr early ↦ counts-before first last samples i early low
      ])

-- ---- sums of samples that are moved

sum-moved : (h : ℕ → ℕ) (c m : ℕ) → sum_by (λ i. h (c + i)) (range_with_len 1 m) + sum_by h (range_with_len 1 c) ≡ sum_by h (range_with_len 1 (c + m))
sum-moved h c zero = let here : c ≡ c + 0 = omega arith in omega arith ∙ ap (λ k. sum_by h (range_with_len 1 k)) here
sum-moved h c (suc m) =
    let next : c + suc m ≡ suc (c + m) = omega arith in
    omega (arith, sum-next (λ i. h (c + i)) m, sum-moved h c m, sum-next h (c + m), ap h next) ∙ ap (λ k. sum_by h (range_with_len 1 k)) (sym next)

-- a product with a number is that with the number less the shift, and the shift times the sample
sum-less : (x : ℕ → ℕ) (c m : ℕ) → sum_by (λ i. i * x (c + i)) (range_with_len 1 m) + c * sum_by (λ i. x (c + i)) (range_with_len 1 m) ≡ sum_by (λ i. (c + i) * x (c + i)) (range_with_len 1 m)
sum-less x c zero = omega arith
sum-less x c (suc m) =
    omega (arith, sum-next (λ i. i * x (c + i)) m, ap (λ s. c * s) (sum-next (λ i. x (c + i)) m), sum-next (λ i. (c + i) * x (c + i)) m, sum-less x c m)

sum_between : (x : ℕ → ℕ) (c low top sum : ℕ) → sum + sum_by (λ i. i * x (c + i)) (range_with_len 1 low) ≡ sum_by (λ i. i * x (c + i)) (range_with_len 1 top)
    → sum + c * sum_by x (range_with_len 1 (c + top)) + sum_by (λ h. h * x h) (range_with_len 1 (c + low)) ≡ sum_by (λ h. h * x h) (range_with_len 1 (c + top)) + c * sum_by x (range_with_len 1 (c + low))
sum_between x c low top sum whole =
    omega (arith, sum-less x c low, sum-less x c top, ap (λ s. c * s) (sum-moved x c low), ap (λ s. c * s) (sum-moved x c top), sum-moved (λ h. h * x h) c low, sum-moved (λ h. h * x h) c top)

-- ---- the words of a track at an offset

-- a word of a rip that begins after the silence
late_word : List ℕ → ℕ → ℕ
late_word y n = cond (ltb n 5878) 0 (get_or y (n - 5878) 0)

late_word-silent : (y : List ℕ) (n : ℕ) → n < 5878 → late_word y n ≡ 0
unfolding late_word
late_word-silent y n silent = cond-true _ 0 (get_or y (n - 5878) 0) (lt-ltb n 5878 silent)

late_word-heard : (y : List ℕ) (n : ℕ) → 5878 ≤ n → late_word y n ≡ get_or y (n - 5878) 0
unfolding late_word
late_word-heard y n heard = cond-false _ 0 (get_or y (n - 5878) 0) (le-ltb n 5878 heard)

early_word : (y : List ℕ) (k m : ℕ) → k < 2939 → moved_word y (negsuc (2938 - k)) m ≡ late_word y (m + 2 * k)
early_word y k m early =
    elim (cases_lt (m + 2 * k) 5878) [
      | inl silent ↦ cond-true _ 0 (get_or y (m - 2 * suc (2938 - k)) 0) (lt-ltb m (2 * suc (2938 - k)) (omega arith)) ∙ sym (late_word-silent y (m + 2 * k) silent)
      | inr heard ↦
          let here : m - 2 * suc (2938 - k) ≡ m + 2 * k - 5878 = omega arith in
          cond-false _ 0 (get_or y (m - 2 * suc (2938 - k)) 0) (le-ltb m (2 * suc (2938 - k)) (omega arith))
          ∙ ap (λ i. get_or y i 0) here ∙ sym (late_word-heard y (m + 2 * k) heard)
    ]

moved-late : (y : List ℕ) (k m : ℕ) → moved_word y (offset_at k) m ≡ late_word y (m + 2 * k)
moved-late y k m =
    elim (cases_lt k 2939) [
      | inl early ↦ ap (λ d. moved_word y d m) (cond-true _ (negsuc (2938 - k)) (pos (k - 2939)) (lt-ltb k 2939 early)) ∙ early_word y k m early
      | inr late ↦
          let here : m + 2 * (k - 2939) ≡ m + 2 * k - 5878 = omega arith in
          ap (λ d. moved_word y d m) (cond-false _ (negsuc (2938 - k)) (pos (k - 2939)) (le-ltb k 2939 late))
          ∙ ap (λ i. get_or y i 0) here ∙ sym (late_word-heard y (m + 2 * k) (omega arith))
    ]

late-pair : (y : List ℕ) (h n : ℕ) → 1 ≤ h → n ≡ 2 * (h - 1) → late_word y n + 65536 * late_word y (n + 1) ≡ late_sample y h
late-pair y h n some at =
    elim (cases_lt 2939 h) [
      | inl heard ↦
          let left : n - 5878 ≡ 2 * (h - 2939 - 1) = omega arith in
          let right : n + 1 - 5878 ≡ 2 * (h - 2939 - 1) + 1 = omega arith in
          ap₂ (λ a b. a + 65536 * b) (late_word-heard y n (omega arith) ∙ ap (λ i. get_or y i 0) left) (late_word-heard y (n + 1) (omega arith) ∙ ap (λ i. get_or y i 0) right)
          ∙ sym (late-heard y h heard)
      | inr silent ↦ ap₂ (λ a b. a + 65536 * b) (late_word-silent y n (omega arith)) (late_word-silent y (n + 1) (omega arith)) ∙ sym (late-silent y h silent)
    ]

module _ (toc : Toc) (y : List ℕ) (t k : ℕ) where
  -- the shift: how many samples come before the track at this offset, where the rip begins after the silence
  shift : ℕ
  shift = 588 * track_start toc t + k

  word_at : (i n : ℕ) → i < 2 * track_samples toc t → 1176 * track_start toc t + i + 2 * k ≡ n → get_or (shifted_track toc y t (offset_at k)) i 0 ≡ late_word y n
  unfolding shifted_track
  word_at i n inside at =
      get_or-map-range_with_len (λ i. moved_word y (offset_at k) (1176 * track_start toc t + i)) 0 (2 * track_samples toc t) i i 0 inside (omega arith)
      ∙ moved-late y k (1176 * track_start toc t + i) ∙ ap (late_word y) at

  sample_at : (i : ℕ) → 1 ≤ i → i ≤ track_samples toc t → sample (shifted_track toc y t (offset_at k)) i ≡ late_sample y (588 * track_start toc t + k + i)
  sample_at i low high =
      let n : ℕ = 1176 * track_start toc t + 2 * (i - 1) + 2 * k in
      ap₂ (λ a b. a + 65536 * b) (word_at (2 * (i - 1)) n (omega arith) (omega arith)) (word_at (2 * (i - 1) + 1) (n + 1) (omega arith) (omega arith))
      ∙ late-pair y (588 * track_start toc t + k + i) n (omega arith) (omega arith)

  samples_of : length (shifted_track toc y t (offset_at k)) / 2 ≡ track_samples toc t
  unfolding shifted_track
  samples_of =
      omega (arith, length-map-range_with_len (λ i. moved_word y (offset_at k) (1176 * track_start toc t + i)) 0 (2 * track_samples toc t))

  pub v1-sum : v1_at toc y t (offset_at k)
      ≡ sum_by (λ i. i * late_sample y (588 * track_start toc t + k + i)) (counting (eqb t 1) (eqb t (length toc.starts)) (track_samples toc t) (track_samples toc t)) % 2 ^ 32
  unfolding shifted_sums track_sums sums_at
  v1-sum =
      let words : List ℕ = shifted_track toc y t (offset_at k) in
      ap (λ n. sum_by (weighted words) (counting (eqb t 1) (eqb t (length toc.starts)) n n) % 2 ^ 32) samples_of
      ∙ ap (λ s. s % 2 ^ 32) (counted-same (eqb t 1) (eqb t (length toc.starts)) (track_samples toc t) (weighted words) (λ i. i * late_sample y (588 * track_start toc t + k + i)) (track_samples toc t)
      (λ i low high. ap (λ x. i * x) (sample_at i low high)))

-- ---- the edges of a track

edge_before : (toc : Toc) (t : ℕ) → 1 ≤ t → t ≤ length toc.starts → edge_of toc (t - 1) ≡ 588 * track_start toc t + margin_before (eqb t 1)
unfolding edge_of
edge_before toc t some within =
    elim (cases_eq t 1) [
      | inl first ↦
          let zero' : t - 1 ≡ 0 = omega arith in
          cond-true _ (588 * get_or toc.starts 0 0 + 2939) _ (eq-eqb (t - 1) 0 zero')
          ∙ ap₂ (λ i m. 588 * get_or toc.starts i 0 + m) (sym zero') (sym (cond-true _ 2939 0 (eq-eqb t 1 first)))
      | inr later ↦
          let none : eqb (t - 1) 0 ≡ false = ne_eqb (t - 1) 0 (λ e. later (omega arith)) in
          let margin : margin_before (eqb t 1) ≡ 0 = cond-false _ 2939 0 (ne_eqb t 1 later) in
          cond-false _ (588 * get_or toc.starts 0 0 + 2939) _ none
          ∙ cond-true _ (588 * get_or toc.starts (t - 1) 0) (588 * toc.sectors - 2940) (lt-ltb (t - 1) (length toc.starts) (omega arith))
          ∙ omega (arith, margin)
    ]

edge_after : (toc : Toc) (t : ℕ) → 1 ≤ t → t ≤ length toc.starts → edge_of toc t ≡ 588 * track_end toc t - margin_after (eqb t (length toc.starts))
unfolding edge_of
edge_after toc t some within =
    let none : eqb t 0 ≡ false = ne_eqb t 0 (λ e. absurd (omega arith)) in
    cond-false _ (588 * get_or toc.starts 0 0 + 2939) _ none ∙
    elim (cases_lt t (length toc.starts)) [
      | inl before ↦
          let here : ltb t (length toc.starts) ≡ true = lt-ltb t (length toc.starts) before in
          let end : track_end toc t ≡ get_or toc.starts t 0 = cond-true _ (get_or toc.starts t 0) toc.sectors here in
          let margin : margin_after (eqb t (length toc.starts)) ≡ 0 = cond-false _ 2940 0 (ne_eqb t (length toc.starts) (λ e. absurd (omega arith))) in
          cond-true _ (588 * get_or toc.starts t 0) (588 * toc.sectors - 2940) here ∙ omega (arith, end, margin)
      | inr last ↦
          let past : ltb t (length toc.starts) ≡ false = le-ltb t (length toc.starts) last in
          let end : track_end toc t ≡ toc.sectors = cond-false _ (get_or toc.starts t 0) toc.sectors past in
          let margin : margin_after (eqb t (length toc.starts)) ≡ 2940 = cond-true _ 2940 0 (eq-eqb t (length toc.starts) (omega arith)) in
          cond-false _ (588 * get_or toc.starts t 0) (588 * toc.sectors - 2940) past ∙ omega (arith, end, margin)
    ]

-- the sum v1 before it is taken modulo 2 ^ 32
abbrev pub whole_sum : Toc → List ℕ → ℕ → ℕ → ℕ
whole_sum toc y t k = sum_by (λ i. i * late_sample y (588 * track_start toc t + k + i)) (counting (eqb t 1) (eqb t (length toc.starts)) (track_samples toc t) (track_samples toc t))

module _ (toc : Toc) (y : List ℕ) (t k : ℕ) (some : 1 ≤ t) (within : t ≤ length toc.starts) where
  pub v1_none : edge_of toc t ≤ edge_of toc (t - 1) → 0 ≡ v1_at toc y t (offset_at k)
  v1_none none =
      sym (v1-sum toc y t k ∙ ap (λ s. s % 2 ^ 32)
      (sum_uncounted (eqb t 1) (eqb t (length toc.starts)) (track_samples toc t) (λ i. i * late_sample y (588 * track_start toc t + k + i))
      (omega (arith, edge_before toc t some within, edge_after toc t some within))))

  pub v1_some : edge_of toc (t - 1) < edge_of toc t
      → whole_sum toc y t k + (588 * track_start toc t + k) * value_sum y (edge_of toc t + k) + product_sum y (edge_of toc (t - 1) + k)
      ≡ product_sum y (edge_of toc t + k) + (588 * track_start toc t + k) * value_sum y (edge_of toc (t - 1) + k)
  unfolding value_sum product_sum
  v1_some counted =
      let c : ℕ = 588 * track_start toc t + k in
      let low : ℕ = margin_before (eqb t 1) in
      let top : ℕ = track_samples toc t - margin_after (eqb t (length toc.starts)) in
      let begin : c + low ≡ edge_of toc (t - 1) + k = omega (arith, edge_before toc t some within) in
      let end : c + top ≡ edge_of toc t + k = omega (arith, edge_before toc t some within, edge_after toc t some within) in
      let whole = sum_counted (eqb t 1) (eqb t (length toc.starts)) (track_samples toc t) (λ i. i * late_sample y (588 * track_start toc t + k + i))
      (omega (arith, edge_before toc t some within, edge_after toc t some within)) in
      ap₂ (λ n m. whole_sum toc y t k + c * sum_by (late_sample y) (range_with_len 1 m) + sum_by (λ h. h * late_sample y h) (range_with_len 1 n)) (sym begin) (sym end)
      ∙ sum_between (late_sample y) c low top (whole_sum toc y t k) whole
      ∙ ap₂ (λ n m. sum_by (λ h. h * late_sample y h) (range_with_len 1 m) + c * sum_by (late_sample y) (range_with_len 1 n)) begin end
