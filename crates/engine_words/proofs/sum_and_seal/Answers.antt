use Rattle.std.proofs.Common.{◌≡◌, ◌∙◌, ◌+◌, ◌*◌, ◌≤◌, ◌++◌, ℕ, List, length, take, ap, rules, arith, length-append}
use Rattle.std.proofs.lemmas.List.{length-take-le}
use Rattle.rip_outside.specs.Files.{Files}
use Rattle.rip_outside.proofs.FilesLaws.{if_told, if_told_weaker}
use Rattle.column_map.specs.Columns.{per_column, stride, table_of_image}
use Rattle.syndrome_stream.specs.Parity.{image_parity}
use Rattle.image_mender.proofs.JoinLaws.{length-joined_words}
use Rattle.image_mender.specs.Joined.{joined_words}
use Rattle.image_mender.specs.Seal.{seal_of_table}
use Rattle.engine_steps.proofs.PieceLaws.{more_told, whole_told}
use Rattle.engine_words.proofs.CoveredLaws.{sealed_image}
use Rattle.rip_outside.proofs.ReadingLaws.{reads_twice}
use Rattle.engine_words.proofs.sum_and_seal.Goals as goal

pub pieces-preserved : goal.pieces-preserved
pieces-preserved g c =
    let words : Files → List ℕ = λ files. joined_words c.args.image.now files in
    let short : c.min-count.result ≤ length c.deref_mut.result.now = omega arith in
    let size : length (take c.min-count.result c.deref_mut.result.now) ≡ c.min-count.result = length-take-le c.min-count.result c.deref_mut.result.now short in
    let read : length c.read.new.buf ≡ c.min-count.result = omega arith in
    let s = c.pieces.invariant.stands in
    record {
      within = omega arith;
      scratch = search rules;
      words = search rules;
      sectors = search rules;
      position = omega (arith, c.absorb.ensures.position);
      only = reads_twice _ _ _ _ c.pieces.invariant.only c.read.ensures.only;
      taken = omega (arith, read, c.in-Ok.ensures.taken, c.pieces.invariant.taken);
      stands = (
        s.0 ++ c.read.new.buf,
        c.absorb.ensures.stands s.0 s.1,
        c.absorb_covered.ensures.stands s.0 s.3 s.2,
        omega (arith, length-append s.0 c.read.new.buf, read, s.3),
        more_told (g.S.Shelf.held c.args.shelf.now) words c.pieces.at c.min-count.result s.0 _ c.read.new.buf size s.4 (rw c.pieces.invariant.only.same at c.in-Ok.ensures.words),
      );
    }

pub returns-clause-parity : goal.returns-clause-parity
returns-clause-parity g c =
    let words : Files → List ℕ = λ files. joined_words c.args.image.now files in
    let s = c.pieces.invariant.stands in
    let all : c.pieces.at ≡ 1176 * c.args.shape = omega arith in
    let rows = c.finish.ensures s.0 s.1 in
    if_told_weaker (g.S.Shelf.held c.args.shelf.now) (λ files. s.0 ≡ words files) _
    (λ files is. rows ∙ ap (λ n. image_parity g.row.P (per_column n) s.0) c.pieces.invariant.sectors ∙ ap (image_parity g.row.P (per_column c.args.shape)) is)
    (whole_told (g.S.Shelf.held c.args.shelf.now) words c.pieces.at s.0
    (if_told (g.S.Shelf.held c.args.shelf.now) _ (λ files told. let long = length-joined_words c.args.image.now files (c.requires.inside files told) in omega arith)) s.4)

pub returns-clause-seal : goal.returns-clause-seal
returns-clause-seal g c =
    let words : Files → List ℕ = λ files. joined_words c.args.image.now files in
    let s = c.pieces.invariant.stands in
    let c' : ℕ = per_column c.args.shape in
    let all : c.pieces.at ≡ 1176 * c.args.shape = omega arith in
    let long : stride + c' * stride ≤ length s.0 = omega (arith, all, s.3) in
    let seal = c.finish-2.ensures _ s.2 ∙ sealed_image c' s.0 long in
    if_told_weaker (g.S.Shelf.held c.args.shelf.now) (λ files. s.0 ≡ words files) _
    (λ files is. seal ∙ ap (λ w. seal_of_table c' (table_of_image w)) is)
    (whole_told (g.S.Shelf.held c.args.shelf.now) words c.pieces.at s.0
    (if_told (g.S.Shelf.held c.args.shelf.now) _ (λ files told. let long = length-joined_words c.args.image.now files (c.requires.inside files told) in omega arith)) s.4)

pub returns-in_default-clause-only : goal.returns-in_default-clause-only
returns-in_default-clause-only g c = reads_twice _ _ _ _ c.pieces.invariant.only c.read.ensures.only
