use Rattle.std.proofs.Common.{◌≡◌, ◌+◌, ◌++◌, length, rules, arith, subst}
use Rattle.std.specs.Prelude.{slice_range, Ok}
use Rattle.std.specs.Option.{ForSome}
use Rattle.rip_outside.proofs.FilesLaws.{if_told}
use Rattle.image_mender.specs.Joined.{joined_words}
use Rattle.image_mender.specs.Patched.{patched}
use Rattle.image_mender.specs.Seal.{Seals}
use Rattle.image_mender.proofs.GrowLaws.{told_ok}
use Rattle.image_mender.proofs.PatchLaws.{fixed_piece}
use Rattle.image_mender.proofs.sealing.seal_piece.Goals as goal

pub returns-clause-absorbed : goal.returns-clause-absorbed
returns-clause-absorbed g c y seals =
    let held = g.S.Shelf.held in
    let ok : c.read.result ≡ Ok c.in_ok-read.field-0 = search rules in
    let read : ForSome (held c.args.shelf.now) (λ files. c.read.new.buf ≡ slice_range (joined_words c.args.image.now files) c.args.at (c.args.at + length c.args.buf.now)) = told_ok c.read.result _ _ _ ok c.read.ensures.words in
    if_told (held c.args.shelf.now) _ (λ files told.
    let words = joined_words c.args.image.now files in
    let size : length c.read.new.buf ≡ length c.args.buf.now = omega arith in
    let fixed : c.fix_piece-after.new.buf ≡ slice_range (patched c.args.fixes.now words) c.args.at (c.args.at + length c.args.buf.now) =
    fixed_piece c.args.fixes.now c.args.next c.fix_piece-after.result c.args.at (length c.read.new.buf) (length c.args.buf.now) c.read.new.buf c.fix_piece-after.new.buf words size
    c.requires.before c.fix_piece-after.ensures.before (read files told) (c.fix_piece-after.ensures.words words) in
    subst (λ piece. Seals c.absorb.new.self (y ++ piece)) fixed (c.absorb.ensures y seals))
