use Rattle.std.proofs.Common.{get_or, sym, arith}
use Rattle.gf16_field.proofs.PowerLaws.{power-one}
use Rattle.gf16_poly.proofs.Discrepancies.{value_first, value_more, power_more}
use Rattle.gf16_poly.proofs.eval.Goals as goal

pub loop-i-init : goal.loop-i-init
loop-i-init g c = record {
  sum = value_first (λ i. get_or c.args.r.now.coef i 0) c.args.x.0;
  next = sym (power-one c.args.x.0 (omega arith));
}

pub loop-i-preserved : goal.loop-i-preserved
loop-i-preserved g c = record {
  sum =
      value_more c.loop-i.i (λ i. get_or c.args.r.now.coef i 0) c.args.x.0 c.loop-i.sum.0 c.loop-i.power.0 c.mul.result.0 c.add-sum.result.0
      c.loop-i.invariant.sum c.loop-i.invariant.next c.mul.ensures.value c.add-sum.ensures;
  next = power_more _ c.args.x.0 c.loop-i.power.0 c.mul-power.result.0 c.loop-i.invariant.next c.mul-power.ensures.value;
}
