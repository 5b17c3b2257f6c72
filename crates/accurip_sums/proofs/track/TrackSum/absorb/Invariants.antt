use Rattle.std.proofs.Common.{◌≡◌, ◌+◌, ◌*◌, ◌++◌, List, ℕ, take}
use Rattle.accurip_sums.specs.StandsFor.{TrackStandsFor}
use Rattle.accurip_sums.proofs.track.TrackSum.absorb.Given as goal

abbrev pub invariant-early : goal.invariant-early
invariant-early l = record {
  first : l.self.first ≡ l.fn.self.first;
  last : l.self.last ≡ l.fn.self.last;
  samples : l.self.samples ≡ l.fn.self.samples;
  position : l.self.position ≡ l.fn.self.position + l.i;
  stands : (y : List ℕ) → TrackStandsFor l.fn.self y → TrackStandsFor l.self (y ++ take (2 * l.i) l.words);
}

abbrev pub invariant-middle : goal.invariant-middle
invariant-middle l = record {
  first : l.self.first ≡ l.fn.self.first;
  last : l.self.last ≡ l.fn.self.last;
  samples : l.self.samples ≡ l.fn.self.samples;
  position : l.self.position ≡ l.fn.self.position + l.i;
  stands : (y : List ℕ) → TrackStandsFor l.fn.self y → TrackStandsFor l.self (y ++ take (2 * l.i) l.words);
}

abbrev pub invariant-late : goal.invariant-late
invariant-late l = record {
  first : l.self.first ≡ l.fn.self.first;
  last : l.self.last ≡ l.fn.self.last;
  samples : l.self.samples ≡ l.fn.self.samples;
  position : l.self.position ≡ l.fn.self.position + l.i;
  stands : (y : List ℕ) → TrackStandsFor l.fn.self y → TrackStandsFor l.self (y ++ take (2 * l.i) l.words);
}
