-- Where the words of a track at an offset stand in a rip. The code's own: functions inside the crate say it of their steps, and no public
-- contract does.
use Rattle.std.specs.Prelude.{◌≡◌, ℕ, ◌+◌, ◌-◌, ◌%◌, List, ◌++◌, map, replicate, slice_range, ℤ}
use Rattle.std.specs.List.{range_with_len}
use Rattle.disc_toc.specs.Toc.{Toc}
use Rattle.accurip_match.specs.Matching.{v2_row}
use Rattle.accurip_match.specs.Shifted.{moved_word}
use Rattle.accurip_match.specs.declared.listing.V2Row.{V2Row}
use Rattle.cmd_match.specs.declared.span.Span.{Span}

-- so many words are whole samples
abbrev pub AreWhole : ℕ → Type 0
AreWhole count = count % 2 ≡ 0

-- the words of a rip from one place to another, at an offset
unfoldable pub moved_words : List ℕ → ℤ → ℕ → ℕ → List ℕ
moved_words rip d from end = map (λ i. moved_word rip d (from + i)) (range_with_len 0 (end - from))

-- some silence, a run of the rip's own words, and silence again
abbrev pub spanned_words : List ℕ → Span → List ℕ
spanned_words rip span = replicate span.before 0 ++ slice_range rip span.from span.end ++ replicate span.after 0

-- the sums of all tracks at each of some offsets
unfoldable pub moved_rows : Toc → List ℕ → List ℤ → List V2Row
moved_rows toc rip offsets = map (v2_row toc rip) offsets
