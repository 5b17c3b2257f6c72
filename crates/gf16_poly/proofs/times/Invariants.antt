use Rattle.std.proofs.Common.{◌≡◌, ℕ, ◌<◌, get_or, length}
use Rattle.gf16_poly.specs.Register.{times_at, with_one}
use Rattle.gf16_poly.proofs.times.Given as goal

abbrev pub invariant-loop-n : goal.invariant-loop-n
invariant-loop-n g l = record {
  long : length l.product ≡ length l.s;
  done : (k : ℕ) → k < l.n → get_or l.product k 0 ≡ times_at (with_one (λ i. get_or l.r.coef i 0)) (λ i. get_or l.s i 0) k;
}
