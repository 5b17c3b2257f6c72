use Rattle.std.proofs.Common.{◌≡◌, take}
use Rattle.std.specs.Prelude.{IfSome}
use Rattle.rip_outside.specs.Reading.{OnlyReads}
use Rattle.rip_inputs.specs.Opening.{lengths_of}
use Rattle.engine_steps.proofs.TakingLaws.{SoFar}
use Rattle.cmd_store.specs.StoreOutcome.{lines_among, listed_line}
use Rattle.cmd_store.proofs.listing.list.Given as goal

abbrev pub invariant-loop-name : goal.invariant-loop-name
invariant-loop-name g l = record {
  lines : IfSome (g.F.Shelf.held l.fn.shelf) (λ files. l.lines ≡ lines_among listed_line l.store files (take l.name-index l.name-items));
  only : OnlyReads g.F.Shelf l.fn.shelf l.shelf;
  taken : SoFar (g.F.Shelf.held l.fn.shelf) (λ files. lengths_of (take l.name-index l.name-items) files) (g.F.Shelf.taken l.fn.shelf) (g.F.Shelf.taken l.shelf);
}
