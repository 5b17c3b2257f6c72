use Rattle.parity_store.proofs.SpellingLaws.{one_spelling}
use Rattle.parity_store.proofs.laws.Goals as goal

pub returns : goal.returns
returns c = record { one_spelling = one_spelling }
