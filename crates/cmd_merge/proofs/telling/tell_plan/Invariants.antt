use Rattle.std.proofs.Common.{◌≡◌, take}
use Rattle.cmd_merge.specs.Planning.{planned_lines}
use Rattle.cmd_merge.proofs.telling.tell_plan.Given as goal

abbrev pub invariant-loop-entry : goal.invariant-loop-entry
invariant-loop-entry l = l.lines ≡ planned_lines (take l.entry-index l.plan)
