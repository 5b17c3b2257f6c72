use Rattle.std.proofs.Common.{◌≡◌, take}
use Rattle.cmd_merge.specs.Planning.{planned_parts}
use Rattle.cmd_merge.proofs.planning.part_names_of.Given as goal

abbrev pub invariant-loop-entry : goal.invariant-loop-entry
invariant-loop-entry l = l.list.items ≡ planned_parts (take l.entry-index l.plan)
