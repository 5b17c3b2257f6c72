use Rattle.std.proofs.Common.{◌≡◌, ◌++◌, filter, int_lt, pos, take}
use Rattle.accurip_match.proofs.picking.add_early.Given as goal

abbrev pub invariant-loop-d : goal.invariant-loop-d
invariant-loop-d l = l.list.items ≡ l.initial.list.items ++ filter (λ d. int_lt d (pos 0)) (take l.d-index l.others)
