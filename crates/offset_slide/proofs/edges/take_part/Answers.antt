use Rattle.offset_slide.proofs.EdgeLaws.{takes_overlap}
use Rattle.offset_slide.proofs.edges.take_part.Goals as goal

pub returns-then-from-end : goal.returns-then-from-end
returns-then-from-end c =
    takes_overlap c.args.first c.args.position c.max-from.result c.min-end.result c.args.words.now c.args.kept.now c.copy_from_slice.new.self
    c.max-from.ensures c.min-end.ensures c.if-from-end.true c.copy_from_slice.ensures.after
