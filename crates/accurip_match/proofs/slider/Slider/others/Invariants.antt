use Rattle.std.proofs.Common.{◌≡◌, List, ℕ, filter, take}
use Rattle.accurip_match.specs.Offsets.{offsets_before}
use Rattle.accurip_match.specs.Picking.{is_other}
use Rattle.accurip_match.specs.Slider.{SliderStandsFor}
use Rattle.accurip_match.proofs.slider.Slider.others.Given as goal

abbrev pub invariant-loop-place : goal.invariant-loop-place
invariant-loop-place l = (y : List ℕ) → SliderStandsFor l.self y → l.others.items ≡ take 8 (filter (is_other l.self.toc l.blocks y) (offsets_before l.place))
