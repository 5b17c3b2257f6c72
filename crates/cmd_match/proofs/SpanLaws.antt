-- Where the words of a track at an offset stand in a rip.
use Rattle.std.proofs.Common.{◌≡◌, ◌∙◌, ℕ, suc, ◌+◌, ◌-◌, ◌*◌, ◌<◌, ◌≤◌, List, ◌++◌, length, get_or, drop, replicate, sym, ap, arith, inl, inr}
use Rattle.std.specs.Prelude.{pos, negsuc, slice_range, min}
use Rattle.std.proofs.lemmas.Bool.{cases_lt, cond-false, cond-true, le-ltb, lt-ltb}
use Rattle.std.proofs.lemmas.List.{get_or-append_right, get_or-drop, get_or-replicate, get_or-take, get_or_append_left, get_or_past, length-append, length-drop, length-replicate, length-take}
use Rattle.std.proofs.lemmas.List.FromFn.{fill_by_all}
use Rattle.accurip_match.specs.Shifted.{moved_word}
use Rattle.cmd_match.specs.Span.{moved_words}

-- ---- silence, a run of words, and silence

abbrev the_zero : ℕ
the_zero = 0

silence : ℕ → List ℕ
silence n = replicate n 0

length-silence : (n : ℕ) → length (silence n) ≡ n
unfolding silence
length-silence n = length-replicate {A = ℕ} n 0

silent : (n i : ℕ) → get_or (silence n) i 0 ≡ the_zero
unfolding silence
silent n i =
    elim (cases_lt i n) [
      | inl inside ↦ get_or-replicate {A = ℕ} n i 0 0 inside
      | inr past ↦ get_or_past {X = ℕ} (replicate n 0) i 0 (omega (arith, past, length-replicate {A = ℕ} n 0))
    ]

spanned : List ℕ → ℕ → ℕ → ℕ → ℕ → List ℕ
spanned rip before from end after = silence before ++ slice_range rip from end ++ silence after

length-run : (rip : List ℕ) (from end : ℕ) → from ≤ end → end ≤ length rip → length (slice_range rip from end) ≡ end - from
length-run rip from end rises within = omega (arith, length-take (end - from) (drop from rip), length-drop from rip, rises, within)

-- silence and a run
length-front : (rip : List ℕ) (before from end : ℕ) → from ≤ end → end ≤ length rip → length (silence before ++ slice_range rip from end) ≡ before + (end - from)
length-front rip before from end rises within =
    omega (arith, length-append (silence before) (slice_range rip from end), length-silence before, length-run rip from end rises within)

length-spanned : (rip : List ℕ) (before from end after : ℕ) → from ≤ end → end ≤ length rip → length (spanned rip before from end after) ≡ before + (end - from) + after
unfolding spanned
length-spanned rip before from end after rises within =
    omega (arith, length-append (silence before ++ slice_range rip from end) (silence after), length-front rip before from end rises within, length-silence after)

-- a word of them
spanned-before : (rip : List ℕ) (before from end after k : ℕ) → from ≤ end → end ≤ length rip → k < before → get_or (spanned rip before from end after) k 0 ≡ the_zero
unfolding spanned
spanned-before rip before from end after k rises within early =
    get_or_append_left (silence before ++ slice_range rip from end) (silence after) 0 k (omega (arith, early, length-front rip before from end rises within))
    ∙ get_or_append_left (silence before) (slice_range rip from end) 0 k (omega (arith, early, length-silence before))
    ∙ silent before k

spanned-run : (rip : List ℕ) (before from end after k n : ℕ) → from ≤ end → end ≤ length rip → before ≤ k → k < before + (end - from) → from + (k - before) ≡ n
    → get_or (spanned rip before from end after) k 0 ≡ get_or rip n 0
unfolding spanned
spanned-run rip before from end after k n rises within low high is =
    get_or_append_left (silence before ++ slice_range rip from end) (silence after) 0 k (omega (arith, high, length-front rip before from end rises within))
    ∙ get_or-append_right (silence before) (slice_range rip from end) before k 0 (length-silence before) low
    ∙ get_or-take (end - from) (drop from rip) (k - before) 0 (omega (arith, low, high))
    ∙ get_or-drop from rip (k - before) 0
    ∙ ap (λ i. get_or rip i 0) is

spanned-after : (rip : List ℕ) (before from end after k : ℕ) → from ≤ end → end ≤ length rip → before + (end - from) ≤ k → get_or (spanned rip before from end after) k 0 ≡ the_zero
unfolding spanned
spanned-after rip before from end after k rises within late =
    get_or-append_right (silence before ++ slice_range rip from end) (silence after) (before + (end - from)) k 0 (length-front rip before from end rises within) late
    ∙ silent after (k - (before + (end - from)))

-- ---- the words of a rip at an offset

-- at one that is late
late_word : (rip : List ℕ) (late begin end k : ℕ) → begin ≤ end → k < end - begin
    → get_or (spanned rip 0 (min (begin + late) (length rip)) (min (end + late) (length rip)) (end - begin - (min (end + late) (length rip) - min (begin + late) (length rip)))) k 0
    ≡ get_or rip (begin + k + late) 0
late_word rip late begin end k rises inside =
    let from : ℕ = min (begin + late) (length rip) in
    let to : ℕ = min (end + late) (length rip) in
    elim (cases_lt (begin + k + late) (length rip)) [
      | inl heard ↦ spanned-run rip 0 from to (end - begin - (to - from)) k (begin + k + late) (omega arith) (omega arith) (omega arith) (omega arith) (omega arith)
      | inr past ↦ spanned-after rip 0 from to (end - begin - (to - from)) k (omega arith) (omega arith) (omega arith) ∙ sym (get_or_past {X = ℕ} rip (begin + k + late) 0 past)
    ]

pub late_words : (rip : List ℕ) (d late begin end : ℕ) → begin ≤ end → end ≤ length rip → late ≡ 2 * d
    → moved_words rip (pos d) begin end
    ≡ replicate 0 0 ++ slice_range rip (min (begin + late) (length rip)) (min (end + late) (length rip)) ++ replicate (end - begin - (min (end + late) (length rip) - min (begin + late) (length rip))) 0
unfolding moved_words spanned silence
late_words rip d late begin end rises within is =
    let from : ℕ = min (begin + late) (length rip) in
    let to : ℕ = min (end + late) (length rip) in
    let after : ℕ = end - begin - (to - from) in
    sym (fill_by_all (λ i. moved_word rip (pos d) (begin + i)) (spanned rip 0 from to after) (end - begin) 0
    (length-spanned rip 0 from to after (omega arith) (omega arith) ∙ omega arith)
    (λ k inside. late_word rip late begin end k rises inside ∙ ap (λ n. get_or rip (begin + k + n) 0) is))

-- at one that is early
early_word : (rip : List ℕ) (early begin end k : ℕ) → begin ≤ end → end ≤ length rip → k < end - begin
    → get_or (spanned rip (min (early - begin) (end - begin)) (begin - early) (end - early) 0) k 0 ≡ get_or (spanned rip early 0 (length rip) 0) (begin + k) 0
early_word rip early begin end k rises within inside =
    let before : ℕ = min (early - begin) (end - begin) in
    elim (cases_lt (begin + k) early) [
      | inl quiet ↦
          spanned-before rip before (begin - early) (end - early) 0 k (omega arith) (omega arith) (omega arith) ∙ sym (spanned-before rip early 0 (length rip) 0 (begin + k) (omega arith) (omega arith) quiet)
      | inr heard ↦
          spanned-run rip before (begin - early) (end - early) 0 k (begin + k - early) (omega arith) (omega arith) (omega arith) (omega arith) (omega arith)
          ∙ sym (spanned-run rip early 0 (length rip) 0 (begin + k) (begin + k - early) (omega arith) (omega arith) heard (omega arith) (omega arith))
    ]

moved_early : (rip : List ℕ) (d early i : ℕ) → i < length rip → early ≡ 2 * suc d → get_or (spanned rip early 0 (length rip) 0) i 0 ≡ moved_word rip (negsuc d) i
moved_early rip d early i inside is =
    elim (cases_lt i early) [
      | inl quiet ↦
          spanned-before rip early 0 (length rip) 0 i (omega arith) (omega arith) quiet ∙ sym (cond-true _ 0 (get_or rip (i - 2 * suc d) 0) (lt-ltb i (2 * suc d) (omega arith)))
      | inr heard ↦
          spanned-run rip early 0 (length rip) 0 i (i - 2 * suc d) (omega arith) (omega arith) heard (omega arith) (omega arith)
          ∙ sym (cond-false _ 0 (get_or rip (i - 2 * suc d) 0) (le-ltb i (2 * suc d) (omega arith)))
    ]

pub early_words : (rip : List ℕ) (d early begin end : ℕ) → begin ≤ end → end ≤ length rip → early ≡ 2 * suc d
    → moved_words rip (negsuc d) begin end ≡ replicate (min (early - begin) (end - begin)) 0 ++ slice_range rip (begin - early) (end - early) ++ replicate 0 0
unfolding moved_words spanned silence
early_words rip d early begin end rises within is =
    let before : ℕ = min (early - begin) (end - begin) in
    sym (fill_by_all (λ i. moved_word rip (negsuc d) (begin + i)) (spanned rip before (begin - early) (end - early) 0) (end - begin) 0
    (length-spanned rip before (begin - early) (end - early) 0 (omega arith) (omega arith) ∙ omega arith)
    (λ k inside. early_word rip early begin end k rises within inside ∙ moved_early rip d early (begin + k) (omega arith) is))
