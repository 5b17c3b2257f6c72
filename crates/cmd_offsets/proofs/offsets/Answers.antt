use Rattle.std.proofs.Common.{◌≡◌, ◌∙◌, None, rules}
use Rattle.engine_steps.specs.Comparing.{both_of, known_of}
use Rattle.engine_steps.specs.Steps.{compared}
use Rattle.engine_search.specs.Agreement.{AreAgreeing}
use Rattle.cmd_offsets.specs.OffsetsOutcome.{IsListedOutcome, listed}
use Rattle.engine_steps.proofs.Leaving.{leaves_weaker, told_leaves, went_on}
use Rattle.std.proofs.lemmas.Result.{err_from_is_err_and}
use Rattle.rip_outside.proofs.FilesLaws.{if_told_both}
use Rattle.engine_search.proofs.SealingLaws.{compare_stopped, compared_bytes, compared_sealing, sealed_stopped, sealed_went}
use Rattle.rip_outside.proofs.ReadingLaws.{reads_twice}
use Rattle.cmd_offsets.proofs.offsets.Goals as goal

pub returns-clause-leaves : goal.returns-clause-leaves
returns-clause-leaves g c =
    let h0 = g.S.Shelf.held c.args.shelf.now in
    let list = c.in_ok-found.found.items in
    let found = c.in_ok-image.field-0 in
    went_on both_of (compared c.args.input.now c.args.rec.now) (λ files both. IsListedOutcome both.0) h0 _ c.compare.result found c.tell.result
    (search rules) c.compare.ensures.answer
    (if_told_both h0 (λ files. AreAgreeing (known_of files found) list) _ _
    (λ files all left. leaves_weaker (λ o. o ≡ listed list) (IsListedOutcome (known_of files found)) files c.tell.result _ (λ o told. (list, all, told)) left) (rw c.compare.ensures.only.same at c.in_ok-found.ensures.found)
    (told_leaves (λ files o. o ≡ listed list) h0 _ c.tell.result (c.list_of.ensures.only.same ∙ c.compare.ensures.only.same) c.tell.ensures.tells))

pub returns-in_err-image-clause-taken : goal.returns-in_err-image-clause-taken
returns-in_err-image-clause-taken g c =
    let p = err_from_is_err_and c.from_residual.result c.from_residual.ensures.1 in
    compare_stopped (g.S.Shelf.held c.args.shelf.now) (compared c.args.input.now c.args.rec.now) None (compared_bytes c.args.input.now c.args.rec.now) _ _ c.compare.result p.0 c.from_residual.result (search rules) p.1 c.compare.ensures.taken

pub returns-in_err-found-clause-taken : goal.returns-in_err-found-clause-taken
returns-in_err-found-clause-taken g c =
    let h0 = g.S.Shelf.held c.args.shelf.now in
    let input = c.args.input.now in
    let rec = c.args.rec.now in
    let found = c.in_ok-image.field-0 in
    let p = err_from_is_err_and c.from_residual-in_err-found.result c.from_residual-in_err-found.ensures.1 in
    sealed_stopped h0 (compared input rec) None (compared_bytes input rec) _ _ c.list_of.result p.0 c.from_residual-in_err-found.result (search rules) p.1
    (compared_sealing h0 _ input rec found None _ _ _ c.compare.result c.list_of.result (search rules) c.compare.ensures.only.same c.compare.ensures.answer c.compare.ensures.taken c.in_ok-image.ensures.count c.list_of.ensures.taken)

pub returns-clause-taken : goal.returns-clause-taken
returns-clause-taken g c =
    let h0 = g.S.Shelf.held c.args.shelf.now in
    let input = c.args.input.now in
    let rec = c.args.rec.now in
    let found = c.in_ok-image.field-0 in
    sealed_went h0 (compared input rec) None (compared_bytes input rec) _ _ c.list_of.result c.in_ok-found.found c.tell.result (search rules)
    (compared_sealing h0 _ input rec found None _ _ _ c.compare.result c.list_of.result (search rules) c.compare.ensures.only.same c.compare.ensures.answer c.compare.ensures.taken c.in_ok-image.ensures.count c.list_of.ensures.taken)

pub returns-in_err-found-clause-only : goal.returns-in_err-found-clause-only
returns-in_err-found-clause-only g c = reads_twice _ _ _ _ c.compare.ensures.only c.list_of.ensures.only

pub returns-clause-only : goal.returns-clause-only
returns-clause-only g c = reads_twice _ _ _ _ c.compare.ensures.only c.list_of.ensures.only
