use Rattle.std.proofs.Common.{refl}
use Rattle.offset_search.proofs.kept.Kept.decode.Goals as goal

pub returns-in_err-errors-clause-none : goal.returns-in_err-errors-clause-none
returns-in_err-errors-clause-none g c none = c.in_err-errors.ensures.none.0 refl
