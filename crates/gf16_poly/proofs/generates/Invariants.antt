use Rattle.std.proofs.Common.{◌≡◌, ℕ, ◌<◌, ◌≤◌, get_or}
use Rattle.gf16_poly.specs.Register.{discrepancy_at}
use Rattle.gf16_poly.proofs.generates.Given as goal

abbrev pub invariant-loop-n : goal.invariant-loop-n
invariant-loop-n g l = (t : ℕ) → l.r.len ≤ t → t < l.n → discrepancy_at l.r.len (λ i. get_or l.r.coef i 0) (λ i. get_or l.s i 0) t ≡ 0
