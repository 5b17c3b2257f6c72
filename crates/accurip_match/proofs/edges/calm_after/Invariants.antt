use Rattle.std.proofs.Common.{ℕ, ◌+◌, ◌<◌, ◌≤◌}
use Rattle.disc_toc.specs.Toc.{toc_of}
use Rattle.accurip_match.specs.Slider.{edge_of}
use Rattle.accurip_match.proofs.edges.calm_after.Given as goal

abbrev pub invariant-loop-j : goal.invariant-loop-j
invariant-loop-j l = record {
  within : l.calm ≤ l.limit;
  calm : (j : ℕ) → j < l.j → (k : ℕ) → k < 5879 → l.place < edge_of (toc_of l.layout) j + k → edge_of (toc_of l.layout) j + k < l.place + l.calm + 1 → ⊥;
}
