use Rattle.std.proofs.Common.{◌≡◌, List, ℕ}
use Rattle.std.specs.List.{flat_map, range_with_len}
use Rattle.accurip_match.specs.Matching.{track_matches, v2_rows}
use Rattle.accurip_match.specs.Offsets.{all_offsets}
use Rattle.accurip_match.specs.Slider.{SliderStandsFor}
use Rattle.accurip_match.proofs.listing.found.Given as goal

abbrev pub invariant-loop-before : goal.invariant-loop-before
invariant-loop-before l = (y : List ℕ) → SliderStandsFor l.slider y → l.v2 ≡ v2_rows l.slider.toc l.response y
    → l.list.items ≡ flat_map (track_matches l.slider.toc l.response y all_offsets) (range_with_len 1 l.before)
