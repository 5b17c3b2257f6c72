use Rattle.std.proofs.Common.{get_or, arith, ◌∙◌, length-set}
use Rattle.gf16_poly.specs.Register.{times_at, with_one}
use Rattle.gf16_poly.proofs.Discrepancies.{filled_more, times_is}
use Rattle.gf16_poly.proofs.times.Goals as goal

pub loop-n-preserved : goal.loop-n-preserved
loop-n-preserved g c = record {
  long = length-set c.loop-n.product c.loop-n.n c.discrepancy.result.0 ∙ c.loop-n.invariant.long;
  done =
      filled_more c.loop-n.product c.loop-n.n c.discrepancy.result.0 (times_at (with_one (λ i. get_or c.args.r.now.coef i 0)) (λ i. get_or c.args.s.now i 0))
      (omega arith)
      (times_is c.loop-n.n c.discrepancy.result.0 (λ i. get_or c.args.r.now.coef i 0) (λ i. get_or c.args.s.now i 0) c.are_words.ensures c.discrepancy.ensures)
      c.loop-n.invariant.done;
}
