-- The words of a track at an offset, and its sums.
use Rattle.std.proofs.Common.{◌≡◌, ◌∙◌, ℕ, suc, ◌+◌, ◌-◌, ◌*◌, ◌<◌, ◌≤◌, ◌==◌, Bool, List, ◌∷◌, ◌++◌, [], length, get_or, map, replicate, take, sym, ap, ap₂, arith, refl}
use Rattle.std.specs.Prelude.{ℤ, slice_range}
use Rattle.std.specs.List.{range_with_len}
use Rattle.std.proofs.Math.Nat.{mul-le-mul_left, mul-suc}
use Rattle.std.proofs.lemmas.Bool.Decides.{nat_tests}
use Rattle.std.proofs.lemmas.List.{map-append, take-replicate, take_all, take_more}
use Rattle.disc_toc.specs.Toc.{Toc}
use Rattle.accurip_sums.specs.Track.{track_sums}
use Rattle.accurip_match.specs.declared.listing.V2Row.{V2Row}
use Rattle.accurip_match.specs.Shifted.{moved_word, shifted_sums, shifted_track, track_end, track_samples, track_start}
use Rattle.engine_sums.specs.Tracks.{begin_of}
use Rattle.engine_sums.proofs.BeginLaws.{begin_at}
use Rattle.accurip_match.specs.Matching.{v2_row}
use Rattle.cmd_match.specs.Span.{moved_words, moved_rows, spanned_words}
use Rattle.cmd_match.specs.declared.span.Span.{Span}

module _ (toc : Toc) (rip : List ℕ) (i : ℕ) (d : ℤ) (inside : i < length toc.starts) where
  start_is : track_start toc (i + 1) ≡ begin_of toc i
  start_is = let here : i + 1 - 1 ≡ i = omega arith in ap (λ k. get_or toc.starts k 0) here ∙ sym (begin_at toc i inside)

  end_is : track_end toc (i + 1) ≡ begin_of toc (i + 1)
  unfolding begin_of
  end_is = refl

  words_are : shifted_track toc rip (i + 1) d ≡ moved_words rip d (1176 * begin_of toc i) (1176 * begin_of toc (i + 1))
  unfolding shifted_track moved_words
  words_are =
      let size : 2 * track_samples toc (i + 1) ≡ 1176 * begin_of toc (i + 1) - 1176 * begin_of toc i = omega (arith, start_is, end_is) in
      ap₂ (λ from n. map (λ k. moved_word rip d (from + k)) (range_with_len 0 n)) (ap (λ s. 1176 * s) start_is) size

  first_is : (i + 1 == 1) ≡ (i == 0)
  first_is = grind (arith, nat_tests)

  -- its sums
  pub moved_sums : shifted_sums toc rip (i + 1) d ≡ track_sums (i == 0) (i + 1 == length toc.starts) (moved_words rip d (1176 * begin_of toc i) (1176 * begin_of toc (i + 1)))
  unfolding shifted_sums
  moved_sums = ap₂ (λ (first : Bool) (words : List ℕ). track_sums first (i + 1 == length toc.starts) words) first_is words_are

-- so many words of the silence
pub silence_of : (silence : List ℕ) (n : ℕ) → silence ≡ replicate 5878 0 → n ≤ 5878 → take n silence ≡ replicate n 0
silence_of silence n is few = ap (take n) is ∙ take-replicate {X = ℕ} n 5878 0 few

-- silence, a run of the rip's words and silence, one after the other
pub spanned_by : (rip silence : List ℕ) (span : Span) → silence ≡ replicate 5878 0 → span.before ≤ 5878 → span.after ≤ 5878
    → [] ++ take span.before silence ++ slice_range rip span.from span.end ++ take span.after silence ≡ spanned_words rip span
spanned_by rip silence span is before after =
    ap₂ (λ (a b : List ℕ). a ++ slice_range rip span.from span.end ++ b) (silence_of silence span.before is before) (silence_of silence span.after is after)

-- ---- the rows of several offsets

pub one_more_row : (toc : Toc) (rip : List ℕ) (offsets : List ℤ) (i : ℕ) (d : ℤ) (rows : List V2Row) (row : V2Row) → i < length offsets → rows ≡ moved_rows toc rip (take i offsets)
    → row ≡ v2_row toc rip (get_or offsets i d) → rows ++ row ∷ [] ≡ moved_rows toc rip (take (i + 1) offsets)
unfolding moved_rows
one_more_row toc rip offsets i d rows row below so_far here =
    ap₂ (λ (a : List V2Row) b. a ++ b ∷ []) so_far here
    ∙ sym (ap (map (v2_row toc rip)) (take_more offsets i d below) ∙ map-append (v2_row toc rip) (take i offsets) (get_or offsets i d ∷ []))

pub no_rows : (toc : Toc) (rip : List ℕ) (offsets : List ℤ) → [] ≡ moved_rows toc rip (take 0 offsets)
unfolding moved_rows
no_rows toc rip offsets = refl

pub all_rows : (toc : Toc) (rip : List ℕ) (offsets : List ℤ) (i : ℕ) → length offsets ≤ i → moved_rows toc rip (take i offsets) ≡ moved_rows toc rip offsets
all_rows toc rip offsets i all = ap (moved_rows toc rip) (take_all i offsets all)

-- so many bytes for each
pub times_more : (one i : ℕ) → one * (i + 1) ≡ one * i + one
times_more one i = let next : i + 1 ≡ suc i = omega arith in ap (λ k. one * k) next ∙ mul-suc one i

pub times_within : (one i n : ℕ) → i < n → one * i + one ≤ one * n
times_within one i n below = let most : one * (i + 1) ≤ one * n = mul-le-mul_left one (omega arith) in omega (arith, most, times_more one i)
