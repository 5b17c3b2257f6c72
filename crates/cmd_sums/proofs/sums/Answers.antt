use Rattle.std.proofs.Common.{◌≡◌, ◌∙◌, ◌*◌, ℕ, List, Result, Ok, ap, arith, refl, rules}
use Rattle.std.specs.Prelude.{IfSome}
use Rattle.std.proofs.lemmas.Result.{err_from_is_err_and}
use Rattle.rip_outside.specs.Files.{Files}
use Rattle.rip_outside.proofs.FilesLaws.{if_told, if_told_weaker}
use Rattle.disc_toc.specs.Toc.{toc_of}
use Rattle.image_mender.specs.Joined.{joined_words, word_count}
use Rattle.rip_inputs.specs.Opening.{lengths_of, names_read}
use Rattle.rip_inputs.specs.Telling.{opened_of}
use Rattle.rip_report.specs.Sums.{sums_text}
use Rattle.engine_steps.specs.Steps.{opened}
use Rattle.cmd_sums.specs.SumsOutcome.{disc_sums}
use Rattle.rip_report.specs.declared.status.Status.TheVariants.{Done}
use Rattle.engine_steps.specs.Outcome.{answered}
use Rattle.engine_steps.specs.declared.steps.Answer.{Answer}
use Rattle.engine_steps.specs.declared.steps.Stop.{Stop}
use Rattle.engine_steps.proofs.Leaving.{told_done, went_on}
use Rattle.engine_steps.proofs.TakingLaws.{found_told, more_so_far, none_so_far, opened_bytes, takes_so_far, takes_stopped}
use Rattle.rip_outside.proofs.ReadingLaws.{reads_twice}
use Rattle.cmd_sums.proofs.sums.Goals as goal

abbrev rip_bytes : List ℕ → Files → ℕ
rip_bytes input files = lengths_of (names_read input files) files

pub returns-clause-leaves : goal.returns-clause-leaves
returns-clause-leaves g c =
    let h0 = g.S.Shelf.held c.args.shelf.now in
    let input = c.args.input.now in
    let rip = c.in_ok-layout.field-0 in
    let toc = toc_of rip.layout in
    let sums = c.in_ok-sums.sums in
    let text : c.in_ok-text.text ≡ sums_text toc sums = c.in_ok-text.ensures in
    let make : Files → List ℕ = λ files. sums_text toc (disc_sums toc (joined_words rip.image files)) in
    let told : IfSome h0 (λ files. sums ≡ disc_sums toc (joined_words rip.image files)) = rw c.open_input.ensures.only.same at c.in_ok-sums.ensures.sums in
    went_on (λ files rip. opened_of rip files) (opened input) (λ files rip o. o ≡ answered Done (sums_text rip.toc (disc_sums rip.toc rip.words))) h0 _ c.open_input.result rip (Ok record { status = Done; text = c.in_ok-text.text })
    (search rules) c.open_input.ensures.answer
    (told_done h0 _ c.in_ok-text.text make (c.sum_tracks.ensures.only.same ∙ c.open_input.ensures.only.same) (if_told_weaker h0 _ (λ files. c.in_ok-text.text ≡ make files) (λ files is. text ∙ ap (sums_text toc) is) told))

pub returns-in_err-sums-clause-taken : goal.returns-in_err-sums-clause-taken
returns-in_err-sums-clause-taken g c =
    let h0 = g.S.Shelf.held c.args.shelf.now in
    let input = c.args.input.now in
    let rip = c.in_ok-layout.field-0 in
    let p = err_from_is_err_and c.from_residual-in_err-sums.result c.from_residual-in_err-sums.ensures.1 in
    takes_stopped h0 _ (rip_bytes input) (λ _. 2 * word_count rip.image) (λ files. 3 * rip_bytes input files) _ _ _ c.sum_tracks.result p.0 c.from_residual-in_err-sums.result
    (search rules) p.1 c.open_input.ensures.only.same
    (more_so_far h0 h0 (λ _. 0) (rip_bytes input) (rip_bytes input) _ _ _ c.open_input.result rip (search rules) refl (none_so_far h0 _) c.open_input.ensures.taken (λ files told. omega arith))
    (if_told _ _ (λ _ _. c.sum_tracks.ensures.taken))
    (λ files told.
    let read : opened input files ≡ Ok (opened_of rip files) = found_told h0 (λ files rip. opened_of rip files) (opened input) c.open_input.result rip (search rules) c.open_input.ensures.answer files told in
    omega (arith, opened_bytes input files (opened_of rip files) read, c.in_ok-layout.ensures.count))

pub returns-in_err-text-clause-taken : goal.returns-in_err-text-clause-taken
returns-in_err-text-clause-taken g c =
    let h0 = g.S.Shelf.held c.args.shelf.now in
    let input = c.args.input.now in
    let rip = c.in_ok-layout.field-0 in
    takes_so_far h0 (λ files. 3 * rip_bytes input files) _ _ _
    (more_so_far h0 _ (rip_bytes input) (λ _. 2 * word_count rip.image) (λ files. 3 * rip_bytes input files) _ _ _ c.sum_tracks.result c.in_ok-sums.sums (search rules) c.open_input.ensures.only.same
    (more_so_far h0 h0 (λ _. 0) (rip_bytes input) (rip_bytes input) _ _ _ c.open_input.result rip (search rules) refl (none_so_far h0 _) c.open_input.ensures.taken (λ files told. omega arith))
    (if_told _ _ (λ _ _. c.sum_tracks.ensures.taken))
    (λ files told.
    let read : opened input files ≡ Ok (opened_of rip files) = found_told h0 (λ files rip. opened_of rip files) (opened input) c.open_input.result rip (search rules) c.open_input.ensures.answer files told in
    omega (arith, opened_bytes input files (opened_of rip files) read, c.in_ok-layout.ensures.count)))

pub returns-clause-taken : goal.returns-clause-taken
returns-clause-taken g c =
    let h0 = g.S.Shelf.held c.args.shelf.now in
    let input = c.args.input.now in
    let rip = c.in_ok-layout.field-0 in
    let result : Result Answer Stop = Ok record { status = Done; text = c.in_ok-text.text } in
    takes_so_far h0 (λ files. 3 * rip_bytes input files) _ _ result
    (more_so_far h0 _ (rip_bytes input) (λ _. 2 * word_count rip.image) (λ files. 3 * rip_bytes input files) _ _ _ c.sum_tracks.result c.in_ok-sums.sums (search rules) c.open_input.ensures.only.same
    (more_so_far h0 h0 (λ _. 0) (rip_bytes input) (rip_bytes input) _ _ _ c.open_input.result rip (search rules) refl (none_so_far h0 _) c.open_input.ensures.taken (λ files told. omega arith))
    (if_told _ _ (λ _ _. c.sum_tracks.ensures.taken))
    (λ files told.
    let read : opened input files ≡ Ok (opened_of rip files) = found_told h0 (λ files rip. opened_of rip files) (opened input) c.open_input.result rip (search rules) c.open_input.ensures.answer files told in
    omega (arith, opened_bytes input files (opened_of rip files) read, c.in_ok-layout.ensures.count)))

pub returns-in_err-sums-clause-only : goal.returns-in_err-sums-clause-only
returns-in_err-sums-clause-only g c = reads_twice _ _ _ _ c.open_input.ensures.only c.sum_tracks.ensures.only

pub returns-in_err-text-clause-only : goal.returns-in_err-text-clause-only
returns-in_err-text-clause-only g c = reads_twice _ _ _ _ c.open_input.ensures.only c.sum_tracks.ensures.only

pub returns-clause-only : goal.returns-clause-only
returns-clause-only g c = reads_twice _ _ _ _ c.open_input.ensures.only c.sum_tracks.ensures.only
