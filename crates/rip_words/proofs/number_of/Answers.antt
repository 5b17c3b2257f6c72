use Rattle.std.proofs.Common.{arith}
use Rattle.rip_words.proofs.Numbers.{number_that_was_read, number_that_was_refused}
use Rattle.rip_words.proofs.number_of.Goals as goal

pub returns-in-Ok-clause-value : goal.returns-in-Ok-clause-value
returns-in-Ok-clause-value c =
    let read = c.in-Ok.ensures.value.0 in
    number_that_was_read c.args.digits c.args.least c.args.most c.args.word.now c.in-Ok.number c.if-starts_with.ensures.cases read.0.0 read.1
    c.if-word-digits.false c.if-number-least.true c.if-number-most.true

pub returns-in_default-3-clause-value : goal.returns-in_default-3-clause-value
returns-in_default-3-clause-value c =
    number_that_was_refused c.args.digits c.args.least c.args.most c.args.word.now c.if-starts_with.ensures.cases (omega arith) c.in_default.ensures.value.0
