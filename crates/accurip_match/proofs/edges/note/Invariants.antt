use Rattle.std.proofs.Common.{◌≡◌, ℕ, ◌+◌, ◌*◌, ◌<◌, ◌≤◌, get_or, length}
use Rattle.disc_toc.specs.Toc.{toc_of}
use Rattle.accurip_match.specs.Slider.{edge_of}
use Rattle.accurip_match.proofs.edges.note.Given as goal

abbrev pub invariant-loop-j : goal.invariant-loop-j
invariant-loop-j l = record {
  here : (j : ℕ) → j < l.j → (k : ℕ) → k < 5879 → edge_of (toc_of l.layout) j + k ≡ l.place → get_or l.notes (5879 * j + k) 0 ≡ l.sum;
  others : (j k : ℕ) → j ≤ length l.layout.starts → k < 5879 → (edge_of (toc_of l.layout) j + k ≡ l.place → ⊥) → get_or l.notes (5879 * j + k) 0 ≡ get_or l.initial.notes (5879 * j + k) 0;
}
