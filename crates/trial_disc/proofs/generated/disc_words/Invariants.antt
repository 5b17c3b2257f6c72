use Rattle.std.proofs.Common.{◌≡◌, ◌^◌, ◌<◌}
use Rattle.trial_disc.specs.Generated.{generated, state}
use Rattle.trial_disc.proofs.generated.disc_words.Given as goal

abbrev pub invariant-loop : goal.invariant-loop
invariant-loop l = record {
  made : l.words.items ≡ generated l.seed l.counter;
  number : l.state ≡ state l.seed l.counter;
  small : l.state < 2 ^ 48;
}
