use Rattle.std.proofs.Common.{◌≡◌, map, take}
use Rattle.rip_outside.specs.Outputs.{part_of}
use Rattle.engine_outputs.proofs.checking.part_names.Given as goal

abbrev pub invariant-loop-out : goal.invariant-loop-out
invariant-loop-out l = l.list.items ≡ map part_of (take l.out-index l.outs)
