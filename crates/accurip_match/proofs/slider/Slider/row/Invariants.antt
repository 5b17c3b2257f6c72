use Rattle.std.proofs.Common.{◌≡◌, ℕ, ◌<◌, List, get_or}
use Rattle.accurip_match.specs.Offsets.{offset_at}
use Rattle.accurip_match.specs.Shifted.{v1_at}
use Rattle.accurip_match.specs.Slider.{SliderStandsFor}
use Rattle.accurip_match.proofs.slider.Slider.row.Given as goal

abbrev pub invariant-loop-place : goal.invariant-loop-place
invariant-loop-place l = (y : List ℕ) → SliderStandsFor l.self y → (k : ℕ) → k < l.place → get_or l.into k 0 ≡ v1_at l.self.toc y l.track (offset_at k)
