use Rattle.trial_disc.proofs.LateLaws.{late_covered}
use Rattle.trial_disc.proofs.laws.Goals as goal

pub returns : goal.returns
returns c = late_covered
