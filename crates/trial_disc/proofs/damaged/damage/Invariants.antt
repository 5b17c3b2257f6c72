use Rattle.std.proofs.Common.{◌≡◌}
use Rattle.trial_disc.specs.Damaged.{damaged}
use Rattle.trial_disc.proofs.damaged.damage.Given as goal

abbrev pub invariant-loop-hit : goal.invariant-loop-hit
invariant-loop-hit l = l.words ≡ damaged l.count l.shift l.hit l.initial.words
