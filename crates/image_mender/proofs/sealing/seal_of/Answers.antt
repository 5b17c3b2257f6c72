use Rattle.std.proofs.Common.{◌≡◌, ◌∙◌, ℕ, ◌+◌, List, ◌++◌, length, take, subst, arith}
use Rattle.std.proofs.lemmas.List.{length-take}
use Rattle.std.specs.Prelude.{slice_range}
use Rattle.rip_outside.specs.Files.{Files}
use Rattle.rip_outside.proofs.FilesLaws.{when_told}
use Rattle.rip_outside.proofs.CauseLaws.{cause_twice}
use Rattle.rip_outside.proofs.ReadingLaws.{reads_twice}
use Rattle.image_mender.specs.Joined.{joined_words}
use Rattle.image_mender.specs.Patched.{AreBelow, patched}
use Rattle.image_mender.specs.Seal.{Seals}
use Rattle.image_mender.proofs.PatchLaws.{slice_range-more}
use Rattle.image_mender.proofs.sealing.seal_of.Goals as goal

pub pieces-preserved : goal.pieces-preserved
pieces-preserved g c =
    let piece = c.in_ok-next.ensures in
    let first = c.args.first in
    let at = c.pieces.at in
    let size : length (take c.min-count.result c.pieces.buf) ≡ c.min-count.result = omega (arith, length-take c.min-count.result c.pieces.buf) in
    record {
      begun = omega arith;
      within = omega arith;
      before = subst (λ n. AreBelow c.args.fixes.now c.in_ok-next.next (at + n)) size piece.before;
      sealed = λ files told.
          let asked : ℕ = length (take c.min-count.result c.pieces.buf) in
          let words : Files → List ℕ = λ files. patched c.args.fixes.now (joined_words c.args.image.now files) in
          let front : List ℕ = slice_range (words files) first at in
          let here =
          when_told (g.S.Shelf.held c.pieces.shelf) (λ files. Seals c.seal_piece.new.sealer (front ++ slice_range (words files) at (at + asked)))
          (piece.absorbed front (c.pieces.invariant.sealed files told)) files (c.pieces.invariant.only.same ∙ told) in
          subst (Seals c.seal_piece.new.sealer) (slice_range-more (words files) first at asked c.min-count.result c.pieces.invariant.begun size) here;
      only = reads_twice _ _ _ _ c.pieces.invariant.only piece.only;
      cause = cause_twice _ _ _ _ _ _ c.pieces.invariant.cause piece.cause absurd;
      most = omega (arith, c.pieces.invariant.most, piece.taken);
    }
