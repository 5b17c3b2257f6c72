use Rattle.std.proofs.Common.{◌+◌, ◌*◌, ◌≤◌, take}
use Rattle.std.specs.Prelude.{sum_by}
use Rattle.rip_outside.specs.Causes.{NoneFell}
use Rattle.rip_outside.specs.Crashes.{WhereForetold}
use Rattle.rip_outside.specs.Files.{Becomes}
use Rattle.rip_outside.specs.Outputs.{PutsSome, after_outputs}
use Rattle.image_mender.specs.Joined.{word_count}
use Rattle.engine_outputs.specs.Writing.{image_outputs}
use Rattle.engine_outputs.proofs.writing.write_files.Given as goal

abbrev pub invariant-loop-i : goal.invariant-loop-i
invariant-loop-i g l = record {
  held : Becomes (λ files. after_outputs (take l.i (image_outputs l.outs l.images l.sheet files)) files) (g.S.Shelf.held l.fn.shelf) (g.S.Shelf.held l.shelf);
  crashes : WhereForetold (λ a b. PutsSome (image_outputs l.outs l.images l.sheet a.files) l.i a b) (g.S.Shelf.crashes l.fn.shelf) (g.S.Shelf.crashes l.shelf);
  later : NoneFell (g.S.Shelf.faults l.fn.shelf) (g.S.Shelf.faults l.shelf);
  taken : g.S.Shelf.taken l.shelf ≤ g.S.Shelf.taken l.fn.shelf + 2 * sum_by word_count (take l.i l.images);
}
