use Rattle.std.proofs.Common.{◌≡◌, ◌+◌, ◌*◌, map}
use Rattle.std.specs.List.{range_with_len}
use Rattle.accurip_match.specs.Response.{entry_at}
use Rattle.accurip_match.proofs.reading.block_at.Given as goal

abbrev pub invariant-loop-t : goal.invariant-loop-t
invariant-loop-t l = l.entries.items ≡ map (λ t. entry_at l.bytes (l.at + 13 + 9 * t)) (range_with_len 0 l.t)
