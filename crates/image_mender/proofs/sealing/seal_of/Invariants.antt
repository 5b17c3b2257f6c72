use Rattle.std.proofs.Common.{◌+◌, ◌-◌, ◌*◌, ◌≤◌}
use Rattle.std.specs.Prelude.{slice_range}
use Rattle.std.specs.Option.{ForSome}
use Rattle.rip_outside.specs.Causes.{HasCause}
use Rattle.rip_outside.specs.Reading.{OnlyReads}
use Rattle.rip_outside.specs.declared.fault.ShelfCall.TheVariants.{ReadAt}
use Rattle.image_mender.specs.Joined.{joined_words}
use Rattle.image_mender.specs.Patched.{AreBelow, patched}
use Rattle.image_mender.specs.Seal.{Seals}
use Rattle.image_mender.proofs.sealing.seal_of.Given as goal

abbrev pub invariant-pieces : goal.invariant-pieces
invariant-pieces g l = record {
  begun : l.first ≤ l.at;
  within : l.at ≤ l.end;
  before : AreBelow l.fixes l.next l.at;
  sealed : ForSome (g.S.Shelf.held l.fn.shelf) (λ files. Seals l.sealer (slice_range (patched l.fixes (joined_words l.image files)) l.first l.at));
  only : OnlyReads g.S.Shelf l.fn.shelf l.shelf;
  cause : HasCause ReadAt (g.S.Shelf.faults l.fn.shelf) (g.S.Shelf.faults l.shelf) ⊥;
  most : g.S.Shelf.taken l.shelf ≤ g.S.Shelf.taken l.fn.shelf + 2 * (l.at - l.first);
}

abbrev pub decreases-pieces : goal.decreases-pieces
decreases-pieces g l = l.end - l.at
