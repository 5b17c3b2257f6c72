use Rattle.cmd_batch.proofs.CountLaws.{faults_counted}
use Rattle.cmd_batch.proofs.IndependenceLaws.{independent}
use Rattle.cmd_batch.proofs.OutcomeLaws.{batch_once}
use Rattle.cmd_batch.proofs.laws.Goals as goal

pub returns : goal.returns
returns c = record {
  one_outcome = batch_once;
  independent = independent;
  faults_counted = faults_counted;
}
