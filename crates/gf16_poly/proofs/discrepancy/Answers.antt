use Rattle.std.proofs.Common.{get_or}
use Rattle.gf16_poly.proofs.Discrepancies.{discrepancy_none, discrepancy_more}
use Rattle.gf16_poly.proofs.discrepancy.Goals as goal

pub loop-i-init : goal.loop-i-init
loop-i-init g c = discrepancy_none (λ i. get_or c.args.coef.now i 0) (λ i. get_or c.args.s.now i 0) c.args.n

pub loop-i-preserved : goal.loop-i-preserved
loop-i-preserved g c =
    discrepancy_more c.loop-i.i c.args.n (λ i. get_or c.args.coef.now i 0) (λ i. get_or c.args.s.now i 0) c.loop-i.sum.0 c.mul.result.0 c.add-sum.result.0
    c.loop-i.invariant c.mul.ensures.value c.add-sum.ensures
