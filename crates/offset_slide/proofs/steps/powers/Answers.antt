use Rattle.std.proofs.Common.{arith, length-set, sym, ◌∙◌}
use Rattle.std.proofs.lemmas.List.{length-replicate}
use Rattle.gf16_field.proofs.PowerLaws.{power-zero}
use Rattle.offset_slide.proofs.StepLaws.{power_next, powers_more}
use Rattle.offset_slide.proofs.steps.powers.Goals as goal

pub loop-m-init : goal.loop-m-init
loop-m-init g c = record { long = length-replicate g.row.P 0; next = sym (power-zero c.args.word.0); done = λ k l. absurd (omega arith) }

pub loop-m-preserved : goal.loop-m-preserved
loop-m-preserved g c = record {
  long = length-set c.loop-m.powers c.loop-m.m c.loop-m.power.0 ∙ c.loop-m.invariant.long;
  next = power_next c.args.word.0 c.loop-m.m c.loop-m.power.0 c.mul-power.result.0 c.loop-m.invariant.next c.mul-power.ensures.value;
  done = powers_more c.args.word.0 c.loop-m.m c.loop-m.powers c.loop-m.power.0 (omega (arith, c.loop-m.invariant.long, c.loop-m-test.true)) c.loop-m.invariant.next c.loop-m.invariant.done;
}

pub returns : goal.returns
returns g c = record { each = λ m l. c.loop-m.invariant.done m (omega arith) }
