use Rattle.std.proofs.Common.{arith}
use Rattle.accurip_match.specs.Shifted.{v1_at}
use Rattle.accurip_match.proofs.OffsetLaws.{row_whole}
use Rattle.accurip_match.proofs.slider.Slider.row.Goals as goal

pub returns : goal.returns
returns c = λ y now. row_whole (v1_at c.args.self.now.toc y c.args.track) c.loop-place.into 5879 (omega arith) (λ k inside. c.loop-place.invariant y now k (omega arith))
