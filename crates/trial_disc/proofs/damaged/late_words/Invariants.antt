use Rattle.std.proofs.Common.{◌≡◌, map}
use Rattle.std.specs.List.{range_with_len}
use Rattle.trial_disc.specs.Damaged.{late_word}
use Rattle.trial_disc.proofs.damaged.late_words.Given as goal

abbrev pub invariant-loop-i : goal.invariant-loop-i
invariant-loop-i l = l.words.items ≡ map (late_word l.disc l.shift) (range_with_len 0 l.i)
