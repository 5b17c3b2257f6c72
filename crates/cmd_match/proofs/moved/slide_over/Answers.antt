use Rattle.std.proofs.Common.{◌≡◌, ◌*◌, ◌≤◌, ◌++◌, ℕ, List, length, take, rules, arith}
use Rattle.std.proofs.lemmas.List.{length-take-le}
use Rattle.rip_outside.specs.Files.{Files}
use Rattle.rip_outside.proofs.FilesLaws.{if_told}
use Rattle.image_mender.proofs.JoinLaws.{length-joined_words}
use Rattle.image_mender.specs.Joined.{joined_words}
use Rattle.engine_steps.proofs.PieceLaws.{more_told, whole_told}
use Rattle.rip_outside.proofs.ReadingLaws.{reads_twice}
use Rattle.cmd_match.proofs.moved.slide_over.Goals as goal

pub pieces-preserved : goal.pieces-preserved
pieces-preserved g c =
    let words : Files → List ℕ = λ files. joined_words c.args.image.now files in
    let short : c.min-count.result ≤ length c.deref_mut.result.now = omega arith in
    let size : length (take c.min-count.result c.deref_mut.result.now) ≡ c.min-count.result = length-take-le c.min-count.result c.deref_mut.result.now short in
    let read : length c.read.new.buf ≡ c.min-count.result = omega arith in
    let s = c.pieces.invariant.stands in
    record {
      within = omega arith;
      scratch = search rules;
      words = search rules;
      toc = search rules;
      position = omega (arith, read, c.absorb.ensures.position, c.pieces.invariant.position);
      only = reads_twice _ _ _ _ c.pieces.invariant.only c.read.ensures.only;
      taken = omega (arith, read, c.in-Ok.ensures.taken, c.pieces.invariant.taken);
      stands = (
        s.0 ++ c.read.new.buf,
        c.absorb.ensures.stands s.0 s.1,
        more_told (g.S.Shelf.held c.args.shelf.now) words c.pieces.at c.min-count.result s.0 _ c.read.new.buf size s.2 (rw c.pieces.invariant.only.same at c.in-Ok.ensures.words),
      );
    }

pub returns-clause-stands : goal.returns-clause-stands
returns-clause-stands g c =
    let words : Files → List ℕ = λ files. joined_words c.args.image.now files in
    let s = c.pieces.invariant.stands in
    let all : c.pieces.at ≡ 1176 * c.args.layout.now.sectors = omega arith in (
      s.0,
      s.1,
      whole_told (g.S.Shelf.held c.args.shelf.now) words c.pieces.at s.0
          (if_told (g.S.Shelf.held c.args.shelf.now) _ (λ files told. let long = length-joined_words c.args.image.now files (c.requires.inside files told) in omega arith)) s.2,
    )

pub returns-in_default-clause-only : goal.returns-in_default-clause-only
returns-in_default-clause-only g c = reads_twice _ _ _ _ c.pieces.invariant.only c.read.ensures.only
