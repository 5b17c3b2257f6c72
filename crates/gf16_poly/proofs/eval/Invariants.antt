use Rattle.std.proofs.Common.{◌≡◌, ◌+◌, get_or}
use Rattle.gf16_field.specs.Gf16.{power}
use Rattle.gf16_poly.specs.Register.{value_at, with_one}
use Rattle.gf16_poly.proofs.eval.Given as goal

abbrev pub invariant-loop-i : goal.invariant-loop-i
invariant-loop-i g l = record {
  sum : l.sum.0 ≡ value_at (l.i + 1) (with_one (λ i. get_or l.r.coef i 0)) l.x.0;
  next : l.power.0 ≡ power l.x.0 (l.i + 1);
}
