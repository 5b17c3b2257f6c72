use Rattle.std.proofs.Common.{◌≡◌, ◌++◌, List, ℕ}
use Rattle.accurip_match.specs.Matching.{track_matches, v2_rows}
use Rattle.accurip_match.specs.Offsets.{offsets_before}
use Rattle.accurip_match.specs.Slider.{SliderStandsFor}
use Rattle.accurip_match.proofs.listing.add_track.Given as goal

abbrev pub invariant-loop-place : goal.invariant-loop-place
invariant-loop-place l = (y : List ℕ) → SliderStandsFor l.slider y → l.rows ≡ v2_rows l.slider.toc l.blocks y
    → l.list.items ≡ l.initial.list.items ++ track_matches l.slider.toc l.blocks y (offsets_before l.place) l.track
