use Rattle.std.proofs.Common.{◌≡◌, drop}
use Rattle.std.specs.Prelude.{IfSome}
use Rattle.rip_outside.specs.Reading.{OnlyReads}
use Rattle.engine_outputs.specs.Writing.{none_held}
use Rattle.engine_outputs.proofs.checking.check_unheld.Given as goal

abbrev pub invariant-loop-i : goal.invariant-loop-i
invariant-loop-i g l = record {
  held : IfSome (g.S.Shelf.held l.fn.shelf) (λ files. none_held l.outs files ≡ none_held (drop l.i l.outs) files);
  only : OnlyReads g.S.Shelf l.fn.shelf l.shelf;
  taken : g.S.Shelf.taken l.shelf ≡ g.S.Shelf.taken l.fn.shelf;
}
