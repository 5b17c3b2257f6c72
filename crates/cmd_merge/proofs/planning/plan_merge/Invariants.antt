use Rattle.std.proofs.Common.{◌≡◌, ◌+◌, length, map, take}
use Rattle.std.specs.Prelude.{IfSome}
use Rattle.rip_outside.specs.Reading.{OnlyReads}
use Rattle.rip_inputs.specs.Opening.{lengths_of}
use Rattle.parity_store.specs.Reading.{most_bytes}
use Rattle.engine_steps.proofs.TakingLaws.{SoFar}
use Rattle.cmd_merge.specs.MergeOutcome.{target}
use Rattle.cmd_merge.specs.Planning.{planned}
use Rattle.cmd_merge.proofs.planning.plan_merge.Given as goal

abbrev pub invariant-loop-name : goal.invariant-loop-name
invariant-loop-name g l = record {
  plan : IfSome (g.S.Shelf.held l.fn.shelf) (λ files. l.plan.items ≡ map (planned l.from l.to files) (take l.name-index l.names));
  bytes : length l.bytes ≡ most_bytes;
  beside : length l.beside ≡ most_bytes;
  only : OnlyReads g.S.Shelf l.fn.shelf l.shelf;
  taken : SoFar (g.S.Shelf.held l.fn.shelf) (λ files. lengths_of (take l.name-index l.names) files + lengths_of (map (target l.from l.to) (take l.name-index l.names)) files) (g.S.Shelf.taken l.fn.shelf) (g.S.Shelf.taken l.shelf);
}
