use Rattle.std.proofs.Common.{◌≡◌, ◌++◌, take}
use Rattle.std.specs.List.{enumerate_from, flat_map}
use Rattle.accurip_match.specs.Matching.{block_matches}
use Rattle.accurip_match.proofs.listing.add_blocks.Given as goal

abbrev pub invariant-loop-i : goal.invariant-loop-i
invariant-loop-i l = l.list.items ≡ l.initial.list.items ++ flat_map (block_matches l.ids l.v1.track l.v1.offset l.v1.sum l.v2) (take l.i (enumerate_from 1 l.blocks))
