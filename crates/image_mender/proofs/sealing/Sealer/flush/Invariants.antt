use Rattle.std.proofs.Common.{◌≡◌, ℕ, List, false}
use Rattle.image_mender.specs.Seal.{Seals}
use Rattle.image_mender.proofs.sealing.Sealer.flush.Given as goal

-- the words stay the same, and the front grows
abbrev pub invariant-runs : goal.invariant-runs
invariant-runs l = record {
  seals : (y : List ℕ) → Seals l.fn.self y → Seals l.self y;
  word : l.self.word ≡ l.fn.self.word;
  alone : l.self.is_run ≡ false;
}

abbrev pub decreases-runs : goal.decreases-runs
decreases-runs l = l.self.behind
