use Rattle.syndrome_stream.proofs.ParityLaws.{image_parity-syndromes}
use Rattle.syndrome_stream.proofs.StandsLaws.{held_all, held_words}
use Rattle.syndrome_stream.proofs.laws.Goals as goal

pub returns-clause-no_offset : goal.returns-clause-no_offset
returns-clause-no_offset c = image_parity-syndromes

pub returns-clause-held : goal.returns-clause-held
returns-clause-held c = λ count j n k column number. (λ kept. (held_words count j n k column kept).1, λ here. held_all count j n k column number here)
