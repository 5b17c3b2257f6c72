use Rattle.std.proofs.Common.{◌≡◌, ℕ, ◌+◌, ◌-◌, ◌*◌, ◌≤◌, ◌++◌, List, take}
use Rattle.accurip_match.specs.Slider.{SliderStandsFor}
use Rattle.accurip_match.proofs.slider.Slider.absorb.Given as goal

abbrev pub invariant-samples : goal.invariant-samples
invariant-samples l = record {
  toc : l.self.toc ≡ l.fn.self.toc;
  position : l.self.position ≡ l.fn.self.position + l.at;
  inside : l.at ≤ l.count;
  stands : (y : List ℕ) → SliderStandsFor l.fn.self y → SliderStandsFor l.self (y ++ take (2 * l.at) l.words);
}

abbrev pub decreases-samples : goal.decreases-samples
decreases-samples l = l.count - l.at
