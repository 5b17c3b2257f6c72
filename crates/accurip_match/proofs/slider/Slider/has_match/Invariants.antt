use Rattle.std.proofs.Common.{◌≡◌, false, List, ℕ}
use Rattle.std.specs.List.{list_any, range_with_len}
use Rattle.accurip_match.specs.Offsets.{offset_at}
use Rattle.accurip_match.specs.Picking.{has_sum, ids_of}
use Rattle.accurip_match.specs.Shifted.{v1_at}
use Rattle.accurip_match.specs.Slider.{SliderStandsFor}
use Rattle.accurip_match.proofs.slider.Slider.has_match.Given as goal

abbrev pub invariant-loop-before : goal.invariant-loop-before
invariant-loop-before l = (y : List ℕ) → SliderStandsFor l.self y
    → list_any (λ t. list_any (has_sum (ids_of l.self.toc) t (v1_at l.self.toc y t (offset_at l.place))) l.blocks) (range_with_len 1 l.before) ≡ false
