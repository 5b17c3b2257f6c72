use Rattle.column_map.specs.Columns.{per_column}
use Rattle.offset_slide.proofs.steps.up.Goals as goal

pub returns : goal.returns
returns g c = λ y a. c.step_up.ensures (per_column c.args.shape.now) y a c.first_weights-first.ensures.some c.powers-rise.ensures c.first_weights-first.ensures.powers
