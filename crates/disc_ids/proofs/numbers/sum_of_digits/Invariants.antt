use Rattle.std.proofs.Common.{◌≡◌, ◌≤◌, ◌+◌}
use Rattle.disc_ids.specs.Numbers.{digit_sum}
use Rattle.disc_ids.proofs.numbers.sum_of_digits.Given as goal

abbrev pub invariant-loop-rest : goal.invariant-loop-rest
invariant-loop-rest l = record {
  sum : l.sum + digit_sum l.rest ≡ digit_sum l.number;
  small : l.sum + l.rest ≤ l.number;
}

abbrev pub decreases-loop-rest : goal.decreases-loop-rest
decreases-loop-rest l = l.rest
