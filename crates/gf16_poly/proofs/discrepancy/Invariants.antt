use Rattle.std.proofs.Common.{◌≡◌, get_or}
use Rattle.gf16_poly.specs.Register.{discrepancy_at}
use Rattle.gf16_poly.proofs.discrepancy.Given as goal

abbrev pub invariant-loop-i : goal.invariant-loop-i
invariant-loop-i g l = l.sum.0 ≡ discrepancy_at l.i (λ i. get_or l.coef i 0) (λ i. get_or l.s i 0) l.n
