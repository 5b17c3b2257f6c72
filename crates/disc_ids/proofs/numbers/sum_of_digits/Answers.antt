use Rattle.std.proofs.Common.{◌≡◌, ap, arith, ◌∙◌}
use Rattle.disc_ids.specs.Numbers.{digit_sum}
use Rattle.disc_ids.proofs.NumberLaws.{digit_sum-none, digit_sum-step}
use Rattle.disc_ids.proofs.numbers.sum_of_digits.Goals as goal

pub loop-rest-preserved : goal.loop-rest-preserved
loop-rest-preserved c =
    let step = digit_sum-step c.loop-rest.rest c.loop-rest-test.true in
    record { sum = omega arith; small = omega arith }

pub returns-clause-sum : goal.returns-clause-sum
returns-clause-sum c =
    let none : c.loop-rest.rest ≡ 0 = omega arith in
    omega (arith, ap digit_sum none ∙ digit_sum-none)
