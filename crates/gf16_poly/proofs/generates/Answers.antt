use Rattle.std.proofs.Common.{◌≡◌, true, false, get_or, refl, arith}
use Rattle.gf16_poly.proofs.Discrepancies.{generates_when_all, not_generated, zeros_more}
use Rattle.gf16_poly.proofs.generates.Goals as goal

pub returns-then-discrepancy-ne0 : goal.returns-then-discrepancy-ne0
returns-then-discrepancy-ne0 g c = (
  λ e. absurd (let wrong : false ≡ true = e in cc),
  λ made. absurd
      (not_generated c.loop-n.n g.row.P c.args.r.now.len c.discrepancy.result.0 (λ i. get_or c.args.r.now.coef i 0) (λ i. get_or c.args.s.now i 0)
      (omega arith) (omega arith) c.discrepancy.ensures c.if-discrepancy-ne0.true made),
)

pub loop-n-preserved : goal.loop-n-preserved
loop-n-preserved g c =
    zeros_more c.loop-n.n c.args.r.now.len c.discrepancy.result.0 (λ i. get_or c.args.r.now.coef i 0) (λ i. get_or c.args.s.now i 0)
    c.discrepancy.ensures c.if-discrepancy-ne0.false c.loop-n.invariant

pub returns : goal.returns
returns g c = (
  λ e. generates_when_all c.loop-n.n g.row.P c.args.r.now.len (λ i. get_or c.args.r.now.coef i 0) (λ i. get_or c.args.s.now i 0) (omega arith) c.loop-n.invariant,
  λ made. refl,
)
