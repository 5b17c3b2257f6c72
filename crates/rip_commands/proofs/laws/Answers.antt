use Rattle.rip_commands.proofs.OneOutcome.{one_outcome}
use Rattle.rip_commands.proofs.laws.Goals as goal

pub returns : goal.returns
returns c = record { one_outcome = one_outcome }
