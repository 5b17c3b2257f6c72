use Rattle.std.proofs.Common.{◌≤◌}
use Rattle.rip_commands.specs.Seen.{seen}
use Rattle.cmd_batch.proofs.SoFar.{SoFar}
use Rattle.cmd_batch.proofs.discs.run_discs.Given as goal

-- the discs before this one ran, and their parts went out
abbrev pub invariant-loop-index : goal.invariant-loop-index
invariant-loop-index g l = record {
  so_far : SoFar l.discs (seen g.F.Shelf g.K.Sink l.fn.files l.fn.out) (seen g.F.Shelf g.K.Sink l.files l.out) (g.F.Shelf.crashes l.fn.files) (g.F.Shelf.crashes l.files) l.index l.failed;
  few : l.failed ≤ l.index;
}
