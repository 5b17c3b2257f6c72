use Rattle.std.proofs.Common.{◌≡◌, ◌∙◌, ◌*◌, ◌<◌, ◌≤◌, ◌∷◌, [], ◌++◌, ℕ, take, get_or, length, subst, arith, rules}
use Rattle.std.specs.Prelude.{ℤ, pos, IfSome}
use Rattle.std.proofs.Math.Nat.{mul-le-mul_left}
use Rattle.std.proofs.lemmas.Result.{err_from_is_err_and}
use Rattle.std.proofs.lemmas.Int.{to_z-of_z}
use mir.Syntax.{w32}
use mir.Val.{SFits}
use Rattle.rip_outside.specs.Files.{Files}
use Rattle.rip_outside.proofs.FilesLaws.{if_told, if_told_both, if_told_weaker}
use Rattle.accurip_match.specs.Matching.{v2_row}
use Rattle.accurip_match.specs.declared.listing.V2Row.{V2Row}
use Rattle.disc_toc.specs.Toc.{toc_of}
use Rattle.image_mender.specs.Joined.{joined_words, word_count}
use Rattle.engine_steps.proofs.TakingLaws.{stopped_takes, takes_after}
use Rattle.rip_outside.proofs.ReadingLaws.{reads_twice}
use Rattle.cmd_match.specs.Span.{moved_rows}
use Rattle.cmd_match.proofs.MovedLaws.{all_rows, no_rows, one_more_row, times_more, times_within}
use Rattle.cmd_match.proofs.StopLaws.{none_found, reads_only_after}
use Rattle.cmd_match.proofs.moved.rows_at.Goals as goal

pub returns-in_err-row-clause-taken : goal.returns-in_err-row-clause-taken
returns-in_err-row-clause-taken g c =
    let one : ℕ = 2 * word_count c.args.image.now in
    let i = c.loop-i.i in
    let below : i < length c.args.offsets.now = omega (arith, c.loop-i-test.true) in
    let p = err_from_is_err_and c.from_residual-in_err-row.result c.from_residual-in_err-row.ensures.1 in
    stopped_takes (one * length c.args.offsets.now) _ _ c.row_at.result p.0 c.from_residual-in_err-row.result (search rules) p.1
    (takes_after (one * i) one (one * length c.args.offsets.now) _ _ _ c.row_at.result c.loop-i.invariant.taken (times_within one i (length c.args.offsets.now) below) c.row_at.ensures.taken)

pub returns-in_default-clause-taken : goal.returns-in_default-clause-taken
returns-in_default-clause-taken g c =
    let one : ℕ = 2 * word_count c.args.image.now in
    let below : c.loop-i.i < length c.args.offsets.now = omega (arith, c.loop-i-test.true) in
    omega (arith, c.in_ok-row.ensures.taken, c.loop-i.invariant.taken, times_within one c.loop-i.i (length c.args.offsets.now) below)

pub loop-i-preserved : goal.loop-i-preserved
loop-i-preserved g c =
    let toc = toc_of c.args.layout.now in
    let one : ℕ = 2 * word_count c.args.image.now in
    let i = c.loop-i.i in
    let f : Files → ℤ → V2Row = λ files d. v2_row toc (joined_words c.args.image.now files) d in
    let below : i < length c.args.offsets.now = omega (arith, c.loop-i-test.true) in
    let d : ℤ = get_or c.args.offsets.now i (pos 0) in
    let fits : SFits w32 d = search rules in
    let here : IfSome (g.S.Shelf.held c.args.shelf.now) (λ files. c.in_ok-row.row ≡ f files d) =
    subst (λ (d : ℤ). IfSome (g.S.Shelf.held c.args.shelf.now) (λ files. c.in_ok-row.row ≡ f files d)) (to_z-of_z w32 d fits) (rw c.loop-i.invariant.only.same at c.in_ok-row.ensures.row) in
    let items : c.push.new.self.items ≡ c.loop-i.rows.items ++ c.in_ok-row.row ∷ [] = search rules in
    record {
      scratch = search rules;
      words = search rules;
      silence = search rules;
      rows = if_told_both (g.S.Shelf.held c.args.shelf.now) (λ files. c.loop-i.rows.items ≡ moved_rows toc (joined_words c.args.image.now files) (take i c.args.offsets.now)) (λ files. c.in_ok-row.row ≡ f files (get_or c.args.offsets.now i (pos 0))) _
          (λ files so_far here. items ∙ one_more_row toc (joined_words c.args.image.now files) c.args.offsets.now i (pos 0) c.loop-i.rows.items c.in_ok-row.row below so_far here) c.loop-i.invariant.rows
          here;
      only = reads_twice _ _ _ _ c.loop-i.invariant.only c.row_at.ensures.only;
      taken = omega (arith, c.in_ok-row.ensures.taken, c.loop-i.invariant.taken, times_more one i);
    }

pub returns-clause-taken : goal.returns-clause-taken
returns-clause-taken g c =
    let one : ℕ = 2 * word_count c.args.image.now in
    let most : one * c.loop-i.i ≤ one * length c.args.offsets.now = mul-le-mul_left one (omega arith) in
    omega (arith, c.loop-i.invariant.taken, most)

pub returns-in_err-row-clause-only : goal.returns-in_err-row-clause-only
returns-in_err-row-clause-only g c = reads_twice _ _ _ _ c.loop-i.invariant.only c.row_at.ensures.only

pub returns-in_default-clause-only : goal.returns-in_default-clause-only
returns-in_default-clause-only g c = reads_twice _ _ _ _ c.loop-i.invariant.only c.row_at.ensures.only

pub loop-i-init : goal.loop-i-init
loop-i-init g c = record {
  scratch = search rules;
  words = search rules;
  silence = search rules;
  rows = if_told (g.S.Shelf.held c.args.shelf.now) _ (λ files told. let none : c.new-rows.result.items ≡ [] = search rules in none ∙ no_rows (toc_of c.args.layout.now) (joined_words c.args.image.now files) c.args.offsets.now);
  only = search rules;
  taken = search rules;
}

pub returns-clause-rows : goal.returns-clause-rows
returns-clause-rows g c =
    if_told_weaker (g.S.Shelf.held c.args.shelf.now) _ _ (λ files so_far. c.of.ensures ∙ so_far ∙ all_rows (toc_of c.args.layout.now) (joined_words c.args.image.now files) c.args.offsets.now c.loop-i.i (omega arith)) c.loop-i.invariant.rows

pub returns-in_err-words-clause-rows : goal.returns-in_err-words-clause-rows
returns-in_err-words-clause-rows g c =
    let p = err_from_is_err_and c.from_residual-in_err-words.result c.from_residual-in_err-words.ensures.1 in none_found (g.S.Shelf.held c.args.shelf.now) _ p.0 _ p.1

pub returns-in_err-scratch-clause-rows : goal.returns-in_err-scratch-clause-rows
returns-in_err-scratch-clause-rows g c =
    let p = err_from_is_err_and c.from_residual-in_err-scratch.result c.from_residual-in_err-scratch.ensures.1 in none_found (g.S.Shelf.held c.args.shelf.now) _ p.0 _ p.1

pub returns-in_err-row-clause-rows : goal.returns-in_err-row-clause-rows
returns-in_err-row-clause-rows g c =
    let p = err_from_is_err_and c.from_residual-in_err-row.result c.from_residual-in_err-row.ensures.1 in none_found (g.S.Shelf.held c.args.shelf.now) _ p.0 _ p.1

pub returns-in_err-row-clause-cause : goal.returns-in_err-row-clause-cause
returns-in_err-row-clause-cause g c =
    let p = err_from_is_err_and c.from_residual-in_err-row.result c.from_residual-in_err-row.ensures.1 in
    reads_only_after _ _ _ c.row_at.result p.0 c.from_residual-in_err-row.result (search rules) p.1 c.loop-i.invariant.only.later c.row_at.ensures.cause

pub returns-in_default-clause-rows : goal.returns-in_default-clause-rows
returns-in_default-clause-rows g c = if_told (g.S.Shelf.held c.args.shelf.now) _ (λ files told. tt)
