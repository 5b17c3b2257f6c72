use Rattle.std.proofs.Common.{◌≡◌, ◌∙◌, ◌+◌, ◌-◌, ◌≤◌, ◌++◌, ℕ, List, length, take, drop, ap, subst, rules, arith, append_assoc}
use Rattle.std.specs.Prelude.{IfSome, slice_range}
use Rattle.std.proofs.lemmas.List.{length-take-le}
use Rattle.rip_outside.specs.Files.{Files}
use Rattle.rip_outside.proofs.FilesLaws.{if_told_weaker}
use Rattle.accurip_sums.specs.StandsFor.{TrackStandsFor}
use Rattle.image_mender.specs.Joined.{joined_words}
use Rattle.engine_steps.proofs.PieceLaws.{more_told, piece_from}
use Rattle.rip_outside.proofs.ReadingLaws.{reads_twice}
use Rattle.engine_sums.proofs.sum_words.Goals as goal

pub pieces-preserved : goal.pieces-preserved
pieces-preserved g c =
    let h0 = g.S.Shelf.held c.args.shelf.now in
    let from = c.args.from in
    let at = c.pieces.at in
    let count = c.min-count.result in
    let words : Files → List ℕ = λ files. joined_words c.args.image.now files in
    let short : count ≤ length c.pieces.words = omega arith in
    let size : length (take count c.pieces.words) ≡ count = length-take-le count c.pieces.words short in
    let read : length c.read.new.buf ≡ count = omega arith in
    let s = c.pieces.invariant.stands in
    let piece : IfSome h0 (λ files. c.read.new.buf ≡ slice_range (drop from (words files)) (at - from) (at - from + length (take count c.pieces.words))) =
    if_told_weaker h0 (λ files. c.read.new.buf ≡ slice_range (words files) at (at + length (take count c.pieces.words))) _
    (λ files is. is ∙ piece_from (words files) from at (length (take count c.pieces.words)) c.pieces.invariant.above)
    (rw c.pieces.invariant.only.same at c.in-Ok.ensures.words) in
    let next : at - from + count ≡ at + count - from = omega (arith, c.pieces.invariant.above) in
    record {
      above = omega arith;
      within = omega arith;
      scratch = search rules;
      words = search rules;
      first = search rules;
      last = search rules;
      samples = search rules;
      position = omega (arith, read, c.absorb.ensures.position, c.pieces.invariant.position, c.pieces.invariant.above);
      only = reads_twice _ _ _ _ c.pieces.invariant.only c.read.ensures.only;
      taken = omega (arith, read, c.in-Ok.ensures.taken, c.pieces.invariant.taken, c.pieces.invariant.above);
      stands = (
        s.0 ++ c.read.new.buf,
        λ y stands. subst (TrackStandsFor c.absorb.new.self) (append_assoc y s.0 c.read.new.buf) (c.absorb.ensures.stands (y ++ s.0) (s.1 y stands)),
        if_told_weaker h0 (λ files. s.0 ++ c.read.new.buf ≡ take (at - from + count) (drop from (words files))) _ (λ files is. is ∙ ap (λ n. take n (drop from (words files))) next)
            (more_told h0 (λ files. drop from (words files)) (at - from) count s.0 _ c.read.new.buf size s.2 piece),
      );
    }

pub returns-in_default-clause-only : goal.returns-in_default-clause-only
returns-in_default-clause-only g c = reads_twice _ _ _ _ c.pieces.invariant.only c.read.ensures.only
