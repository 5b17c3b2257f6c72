use Rattle.std.proofs.Common.{◌≡◌, ℕ, ◌<◌, get_or, length}
use Rattle.gf16_field.specs.Gf16.{power}
use Rattle.offset_slide.proofs.steps.powers.Given as goal

abbrev pub invariant-loop-m : goal.invariant-loop-m
invariant-loop-m g l = record {
  long : length l.powers ≡ g.row.P;
  next : l.power.0 ≡ power l.word.0 l.m;
  done : (k : ℕ) → k < l.m → get_or l.powers k 0 ≡ power l.word.0 k;
}
