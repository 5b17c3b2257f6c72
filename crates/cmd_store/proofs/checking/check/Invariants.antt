use Rattle.std.proofs.Common.{◌≡◌, ◌≤◌, take}
use Rattle.std.specs.Prelude.{IfSome}
use Rattle.rip_outside.specs.Reading.{OnlyReads}
use Rattle.rip_inputs.specs.Opening.{lengths_of}
use Rattle.engine_steps.proofs.TakingLaws.{SoFar}
use Rattle.cmd_store.specs.StoreOutcome.{bad_among, faulty_line, lines_among}
use Rattle.cmd_store.proofs.checking.check.Given as goal

abbrev pub invariant-loop-name : goal.invariant-loop-name
invariant-loop-name g l = record {
  lines : IfSome (g.F.Shelf.held l.fn.shelf) (λ files. l.lines ≡ lines_among faulty_line l.store files (take l.name-index l.name-items));
  bad : IfSome (g.F.Shelf.held l.fn.shelf) (λ files. l.bad ≡ bad_among l.store files (take l.name-index l.name-items));
  few : l.bad ≤ l.name-index;
  only : OnlyReads g.F.Shelf l.fn.shelf l.shelf;
  taken : SoFar (g.F.Shelf.held l.fn.shelf) (λ files. lengths_of (take l.name-index l.name-items) files) (g.F.Shelf.taken l.fn.shelf) (g.F.Shelf.taken l.shelf);
}
