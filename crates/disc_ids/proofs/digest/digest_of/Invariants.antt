use Rattle.std.proofs.Common.{◌≡◌, ◌++◌, map, take, drop}
use Rattle.disc_ids.specs.Digest.{spelled}
use Rattle.disc_ids.proofs.digest.digest_of.Given as goal

abbrev pub invariant-loop-character : goal.invariant-loop-character
invariant-loop-character l = l.character-items ≡ map spelled (take l.character-index l.initial.character-items) ++ drop l.character-index l.initial.character-items
