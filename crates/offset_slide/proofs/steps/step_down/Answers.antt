use Rattle.std.proofs.Common.{arith}
use Rattle.offset_slide.proofs.StepLaws.{row_down}
use Rattle.offset_slide.proofs.steps.step_down.Goals as goal

pub returns : goal.returns
returns g c = λ d y a some fall first words now leaves enters.
    row_down g.row.P d y a c.args.regs.now c.loop-m.row c.args.fall.now c.args.first.now c.args.left c.args.entered some fall first words now leaves enters
    c.loop-m.invariant.long (λ m l. c.loop-m.invariant.done m (omega arith))
