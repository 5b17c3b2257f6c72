use Rattle.std.proofs.Common.{arith}
use Rattle.offset_slide.proofs.StepLaws.{row_up}
use Rattle.offset_slide.proofs.steps.step_up.Goals as goal

pub returns : goal.returns
returns g c = λ d y a some rise first words now leaves enters.
    row_up g.row.P d y a c.args.regs.now c.loop-m.row c.args.rise.now c.args.first.now c.args.left c.args.entered some rise first words now leaves enters
    c.loop-m.invariant.long (λ m l. c.loop-m.invariant.done m (omega arith))
