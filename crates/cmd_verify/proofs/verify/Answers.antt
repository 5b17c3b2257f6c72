use Rattle.std.proofs.Common.{◌≡◌, ◌∙◌, rules}
use Rattle.engine_steps.specs.Comparing.{both_of, known_of}
use Rattle.engine_steps.specs.Steps.{compared}
use Rattle.engine_search.specs.Picking.{Picks}
use Rattle.engine_steps.specs.Outcome.{ThenOf}
use Rattle.cmd_verify.specs.VerifyOutcome.{judged}
use Rattle.engine_steps.proofs.Leaving.{told_leaves, went_on, went_on_of}
use Rattle.std.proofs.lemmas.Result.{err_from_is_err_and}
use Rattle.engine_search.proofs.SealingLaws.{compare_stopped, compared_bytes, compared_sealing, sealed_stopped, sealed_went}
use Rattle.rip_outside.proofs.ReadingLaws.{reads_twice}
use Rattle.cmd_verify.proofs.verify.Goals as goal

pub returns-clause-leaves : goal.returns-clause-leaves
returns-clause-leaves g c =
    let h0 = g.S.Shelf.held c.args.shelf.now in
    let offset = c.args.offset in
    let found = c.in_ok-image.field-0 in
    went_on both_of (compared c.args.input.now c.args.rec.now) (λ files both. ThenOf (Picks offset both.0) (λ at o. o ≡ judged at)) h0 _ c.compare.result found c.judge.result
    (search rules) c.compare.ensures.answer
    (went_on_of (λ _ at. at) (λ files. Picks offset (known_of files found)) (λ files at o. o ≡ judged at) h0 _ c.pick_of.result c.in_ok-at.at c.judge.result
    (search rules) (rw c.compare.ensures.only.same at c.pick_of.ensures.picks)
    (told_leaves (λ files o. o ≡ judged c.in_ok-at.at) h0 _ c.judge.result (c.pick_of.ensures.only.same ∙ c.compare.ensures.only.same) c.judge.ensures.tells))

pub returns-in_err-image-clause-taken : goal.returns-in_err-image-clause-taken
returns-in_err-image-clause-taken g c =
    let p = err_from_is_err_and c.from_residual.result c.from_residual.ensures.1 in
    compare_stopped (g.S.Shelf.held c.args.shelf.now) (compared c.args.input.now c.args.rec.now) c.args.offset (compared_bytes c.args.input.now c.args.rec.now) _ _ c.compare.result p.0 c.from_residual.result (search rules) p.1 c.compare.ensures.taken

pub returns-in_err-at-clause-taken : goal.returns-in_err-at-clause-taken
returns-in_err-at-clause-taken g c =
    let h0 = g.S.Shelf.held c.args.shelf.now in
    let input = c.args.input.now in
    let rec = c.args.rec.now in
    let found = c.in_ok-image.field-0 in
    let p = err_from_is_err_and c.from_residual-in_err-at.result c.from_residual-in_err-at.ensures.1 in
    sealed_stopped h0 (compared input rec) c.args.offset (compared_bytes input rec) _ _ c.pick_of.result p.0 c.from_residual-in_err-at.result (search rules) p.1
    (compared_sealing h0 _ input rec found c.args.offset _ _ _ c.compare.result c.pick_of.result (search rules) c.compare.ensures.only.same c.compare.ensures.answer c.compare.ensures.taken c.in_ok-image.ensures.count c.pick_of.ensures.taken)

pub returns-clause-taken : goal.returns-clause-taken
returns-clause-taken g c =
    let h0 = g.S.Shelf.held c.args.shelf.now in
    let input = c.args.input.now in
    let rec = c.args.rec.now in
    let found = c.in_ok-image.field-0 in
    sealed_went h0 (compared input rec) c.args.offset (compared_bytes input rec) _ _ c.pick_of.result c.in_ok-at.at c.judge.result (search rules)
    (compared_sealing h0 _ input rec found c.args.offset _ _ _ c.compare.result c.pick_of.result (search rules) c.compare.ensures.only.same c.compare.ensures.answer c.compare.ensures.taken c.in_ok-image.ensures.count c.pick_of.ensures.taken)

pub returns-in_err-at-clause-only : goal.returns-in_err-at-clause-only
returns-in_err-at-clause-only g c = reads_twice _ _ _ _ c.compare.ensures.only c.pick_of.ensures.only

pub returns-clause-only : goal.returns-clause-only
returns-clause-only g c = reads_twice _ _ _ _ c.compare.ensures.only c.pick_of.ensures.only
