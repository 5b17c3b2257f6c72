use Rattle.std.proofs.Common.{◌≡◌, ◌+◌, drop, map}
use Rattle.toml.specs.View.{view}
use Rattle.batch_list.proofs.ReadingLaws.{discs_from, read_after}
use Rattle.batch_list.proofs.reading.read_discs.Given as goal

-- the words so far stand before those of the discs that are left
abbrev pub invariant-loop-index : goal.invariant-loop-index
invariant-loop-index l = discs_from 1 (map view l.discs) ≡ read_after l.lists.items (discs_from (l.index + 1) (map view (drop l.index l.discs)))
