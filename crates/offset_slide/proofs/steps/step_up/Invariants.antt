use Rattle.std.proofs.Common.{◌≡◌, ℕ, ◌<◌, get_or, length}
use Rattle.gf16_field.specs.Xor.{◌⊕◌}
use Rattle.gf16_field.specs.Gf16.{◌⊗◌}
use Rattle.offset_slide.proofs.steps.step_up.Given as goal

abbrev pub invariant-loop-m : goal.invariant-loop-m
invariant-loop-m g l = record {
  long : length l.row ≡ g.row.P;
  done : (m : ℕ) → m < l.m → get_or l.row m 0 ≡ get_or l.rise m 0 ⊗ (get_or l.regs m 0 ⊕ l.left ⊗ get_or l.first m 0) ⊕ l.entered;
}
