-- What a slider keeps of a rip: sums of all samples up to the places that are the edges of tracks at some offset.
use Rattle.std.specs.Prelude.{◌≡◌, ℕ, ◌+◌, ◌-◌, ◌*◌, ◌%◌, ◌^◌, ◌<◌, ◌≤◌, ◌==◌, nat_lt, if◌then◌else◌, List, length, slice_index}
use Rattle.std.specs.List.{range_with_len, sum_by}
use Rattle.disc_toc.specs.Toc.{Toc}
use Rattle.accurip_sums.specs.Track.{sample}
use Rattle.accurip_match.specs.declared.prefix.Prefix.{Prefix}

-- the sample with this number of a rip that begins after 2,939 samples of silence, numbered from 1
abbrev pub late_sample : List ℕ → ℕ → ℕ
late_sample rip number = if nat_lt 2939 number then sample rip (number - 2939) else 0

-- the sum of the first samples, so many, and the sum of their products with their numbers
unfoldable pub value_sum : List ℕ → ℕ → ℕ
value_sum rip count = sum_by (late_sample rip) (range_with_len 1 count)

unfoldable pub product_sum : List ℕ → ℕ → ℕ
product_sum rip count = sum_by (λ number. number * late_sample rip number) (range_with_len 1 count)

-- both modulo 2 ^ 32
abbrev pub prefix_of : List ℕ → ℕ → Prefix
prefix_of rip count = record { values = value_sum rip count % 2 ^ 32; products = product_sum rip count % 2 ^ 32 }

-- A rip's words so far have these sums: as many samples have come as the count says without the silence.
pub record PrefixStandsFor (prefix : Prefix) (count : ℕ) (y : List ℕ) : Type 0 where
  pub whole : length y + 5878 ≡ 2 * count
  pub sums : prefix ≡ prefix_of y count

-- How many samples come before those that count of track j + 1 at the least offset, where the rip begins after the
-- silence, and after those of track j: 2,939 samples of the first track don't count, nor do 2,940 of the last.
unfoldable pub edge_of : Toc → ℕ → ℕ
edge_of toc j =
    if j == 0 then 588 * slice_index toc.starts 0 + 2939
    else if nat_lt j (length toc.starts) then 588 * slice_index toc.starts j
    else 588 * toc.sectors - 2940

-- the table of contents of the disc, how many samples have come, their sums, and the sums up to each edge at each offset
pub record KeptSlider : Type 0 where
  pub toc : Toc
  pub position : ℕ
  pub prefix : Prefix
  pub values : List ℕ
  pub products : List ℕ

-- A slider stands for the words y where all of them have come, and where the sums are kept up to each edge that has.
pub record SliderStandsFor (kept : KeptSlider) (y : List ℕ) : Type 0 where
  pub prefix : PrefixStandsFor kept.prefix (kept.position + 2939) y
  pub values : (j k : ℕ) → j ≤ length kept.toc.starts → k < 5879 → edge_of kept.toc j + k ≤ kept.position + 2939
      → slice_index kept.values (5879 * j + k) ≡ (prefix_of y (edge_of kept.toc j + k)).values
  pub products : (j k : ℕ) → j ≤ length kept.toc.starts → k < 5879 → edge_of kept.toc j + k ≤ kept.position + 2939
      → slice_index kept.products (5879 * j + k) ≡ (prefix_of y (edge_of kept.toc j + k)).products

-- ---- the code's own: functions inside the crate say it of their steps, and no public contract does

-- no edge at any offset lies after the one place and before the other
abbrev pub IsCalm : Toc → ℕ → ℕ → Type 0
IsCalm toc from end = (j k : ℕ) → j ≤ length toc.starts → k < 5879 → from < edge_of toc j + k → edge_of toc j + k < end → ⊥

-- the value is noted for each edge that lies at this place at some offset, and no other note changes
pub record Notes (toc : Toc) (place value : ℕ) (old new : List ℕ) : Type 0 where
  pub here : (j k : ℕ) → j ≤ length toc.starts → k < 5879 → edge_of toc j + k ≡ place → slice_index new (5879 * j + k) ≡ value
  pub others : (j k : ℕ) → j ≤ length toc.starts → k < 5879 → (edge_of toc j + k ≡ place → ⊥) → slice_index new (5879 * j + k) ≡ slice_index old (5879 * j + k)
