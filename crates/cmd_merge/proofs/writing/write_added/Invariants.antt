use Rattle.std.proofs.Common.{◌≡◌, length, take}
use Rattle.rip_outside.specs.Causes.{NoneFell}
use Rattle.rip_outside.specs.Crashes.{WhereForetold}
use Rattle.rip_outside.specs.Files.{Becomes}
use Rattle.rip_outside.specs.Outputs.{PutsSome, after_outputs}
use Rattle.rip_inputs.specs.Opening.{lengths_of}
use Rattle.parity_store.specs.Reading.{most_bytes}
use Rattle.engine_steps.proofs.TakingLaws.{SoFar}
use Rattle.cmd_merge.specs.MergeOutcome.{merge_outputs}
use Rattle.cmd_merge.proofs.AddLaws.{added}
use Rattle.cmd_merge.proofs.writing.write_added.Given as goal

abbrev pub invariant-loop-i : goal.invariant-loop-i
invariant-loop-i g l = record {
  room : length l.bytes ≡ most_bytes;
  held : Becomes (λ files. after_outputs (take l.i (merge_outputs l.from l.to files)) files) (g.S.Shelf.held l.fn.shelf) (g.S.Shelf.held l.shelf);
  crashes : WhereForetold (λ a b. PutsSome (merge_outputs l.from l.to a.files) l.i a b) (g.S.Shelf.crashes l.fn.shelf) (g.S.Shelf.crashes l.shelf);
  later : NoneFell (g.S.Shelf.faults l.fn.shelf) (g.S.Shelf.faults l.shelf);
  taken : SoFar (g.S.Shelf.held l.fn.shelf) (λ files. lengths_of (take l.i (added l.from l.to files)) files) (g.S.Shelf.taken l.fn.shelf) (g.S.Shelf.taken l.shelf);
}
