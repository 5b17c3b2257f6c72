use Rattle.column_map.specs.Columns.{per_column}
use Rattle.offset_slide.proofs.steps.down.Goals as goal

pub returns : goal.returns
returns g c = λ y a. c.step_down.ensures (per_column c.args.shape.now) y a c.first_weights-first.ensures.some c.powers-fall.ensures c.first_weights-first.ensures.powers
