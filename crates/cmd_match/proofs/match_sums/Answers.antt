use Rattle.std.proofs.Common.{◌≡◌, ◌∙◌, ◌*◌, ◌≤◌, ℕ, List, length, Result, Ok, Some, arith, refl, rules, sym}
use Rattle.std.proofs.lemmas.Result.{err_from_is_err_and}
use Rattle.rip_outside.specs.Files.{Files, bytes_at}
use Rattle.rip_outside.proofs.FilesLaws.{if_told, when_told}
use Rattle.disc_toc.specs.Toc.{toc_of}
use Rattle.accurip_match.specs.Matching.{AreMatches}
use Rattle.accurip_match.specs.Name.{response_name}
use Rattle.accurip_match.proofs.ResponseLaws.{blocks_room}
use Rattle.image_mender.specs.Joined.{joined_words, word_count}
use Rattle.rip_inputs.specs.Opening.{Opened, lengths_of, names_read}
use Rattle.rip_inputs.specs.Telling.{opened_of}
use Rattle.rip_report.specs.Matches.{matches_text}
use Rattle.engine_steps.specs.Steps.{opened}
use Rattle.rip_report.specs.declared.status.Status.TheVariants.{Done}
use Rattle.engine_steps.specs.Outcome.{Outcome, Then, ThenOf, answered}
use Rattle.engine_steps.specs.declared.steps.Answer.{Answer}
use Rattle.engine_steps.specs.declared.steps.Stop.{Stop}
use Rattle.engine_steps.proofs.Leaving.{reads_nothing, stopped, stopped_of, went_on, went_on_of}
use Rattle.engine_steps.proofs.TakingLaws.{SoFar, found_told, more_so_far, none_so_far, opened_bytes, takes_so_far, takes_stopped}
use Rattle.rip_outside.proofs.ReadingLaws.{reads_twice}
use Rattle.cmd_match.specs.MatchOutcome.{AreRead, IsMatchedBy, matched_names, response_bytes}
use Rattle.cmd_match.proofs.MatchedLaws.{rip_matched, with_response}
use Rattle.cmd_match.proofs.match_sums.Goals as goal

-- what comes of a response's bytes, and of a rip
abbrev read_outcome : Opened → List ℕ → Outcome → Type 0
read_outcome rip bytes = ThenOf (AreRead bytes) (λ blocks. IsMatchedBy rip blocks)

abbrev rip_outcome : List ℕ → Files → Opened → Outcome → Type 0
rip_outcome resp files rip = Then (response_bytes (response_name resp rip.toc) files) (λ bytes. read_outcome rip bytes)

-- the bytes of the rip's files, and those of the response too
abbrev rip_bytes : List ℕ → Files → ℕ
rip_bytes input files = lengths_of (names_read input files) files

abbrev all_bytes : List ℕ → List ℕ → Files → ℕ
all_bytes input resp files = lengths_of (matched_names input resp files) files

pub returns-in_err-bytes-clause-leaves : goal.returns-in_err-bytes-clause-leaves
returns-in_err-bytes-clause-leaves g c =
    let h0 = g.S.Shelf.held c.args.shelf.now in
    let rip = c.in_ok-layout.field-0 in
    let name = response_name c.args.resp.now (toc_of rip.layout) in
    let named : c.as_str.result.now ≡ name = search rules in
    let p = err_from_is_err_and c.from_residual-in_err-bytes.result c.from_residual-in_err-bytes.ensures.1 in
    went_on (λ files rip. opened_of rip files) (opened c.args.input.now) (λ files rip. rip_outcome c.args.resp.now files rip) h0 _ c.open_input.result rip c.from_residual-in_err-bytes.result
    (search rules) c.open_input.ensures.answer
    (stopped _ (λ files. response_bytes name files) (λ files bytes. read_outcome (opened_of rip files) bytes) _ _ h0 _ c.read_response_file.result p.0 c.from_residual-in_err-bytes.result
    (search rules) p.1 (c.read_response_file.ensures.only.same ∙ c.open_input.ensures.only.same) c.read_response_file.ensures.cause (rw (c.open_input.ensures.only.same, named) at c.read_response_file.ensures.answer))

pub returns-in_err-response-clause-leaves : goal.returns-in_err-response-clause-leaves
returns-in_err-response-clause-leaves g c =
    let h0 = g.S.Shelf.held c.args.shelf.now in
    let rip = c.in_ok-layout.field-0 in
    let bytes = c.in_ok-bytes.bytes in
    let name = response_name c.args.resp.now (toc_of rip.layout) in
    let named : c.as_str.result.now ≡ name = search rules in
    let p = err_from_is_err_and c.from_residual-in_err-response.result c.from_residual-in_err-response.ensures.1 in
    went_on (λ files rip. opened_of rip files) (opened c.args.input.now) (λ files rip. rip_outcome c.args.resp.now files rip) h0 _ c.open_input.result rip c.from_residual-in_err-response.result
    (search rules) c.open_input.ensures.answer
    (went_on _ (λ files. response_bytes name files) (λ files bytes. read_outcome (opened_of rip files) bytes) h0 _ c.read_response_file.result bytes c.from_residual-in_err-response.result
    (search rules) (rw (c.open_input.ensures.only.same, named) at c.read_response_file.ensures.answer)
    (stopped_of _ (λ _. AreRead bytes.items) (λ files blocks. IsMatchedBy (opened_of rip files) blocks) (λ _. 0) (λ _. 0) h0 _ c.blocks_of.result p.0 c.from_residual-in_err-response.result
    (search rules) p.1 (c.read_response_file.ensures.only.same ∙ c.open_input.ensures.only.same) (reads_nothing (λ _. 0) (λ _. 0) c.blocks_of.result c.blocks_of.ensures.cause) (if_told h0 _ (λ _ _. rw c.deref.ensures.value at c.blocks_of.ensures.answer))))

pub returns-clause-leaves : goal.returns-clause-leaves
returns-clause-leaves g c =
    let h0 = g.S.Shelf.held c.args.shelf.now in
    let rip = c.in_ok-layout.field-0 in
    let bytes = c.in_ok-bytes.bytes in
    let response = c.in_ok-response.response in
    let list = c.in_ok-list.list in
    let name = response_name c.args.resp.now (toc_of rip.layout) in
    let named : c.as_str.result.now ≡ name = search rules in
    let result : Result Answer Stop = Ok record { status = Done; text = c.in_ok-text.text } in
    let before = c.read_response_file.ensures.only.same ∙ c.open_input.ensures.only.same in
    let text : c.in_ok-text.text ≡ matches_text list = c.in_ok-text.ensures in
    went_on (λ files rip. opened_of rip files) (opened c.args.input.now) (λ files rip. rip_outcome c.args.resp.now files rip) h0 _ c.open_input.result rip result
    (search rules) c.open_input.ensures.answer
    (went_on _ (λ files. response_bytes name files) (λ files bytes. read_outcome (opened_of rip files) bytes) h0 _ c.read_response_file.result bytes result
    (search rules) (rw (c.open_input.ensures.only.same, named) at c.read_response_file.ensures.answer)
    (went_on_of _ (λ _. AreRead bytes.items) (λ files blocks. IsMatchedBy (opened_of rip files) blocks) h0 _ c.blocks_of.result response result
    (search rules) (if_told h0 _ (λ _ _. rw c.deref.ensures.value at c.blocks_of.ensures.answer))
    (if_told h0 _ (λ files told.
    let are : AreMatches (toc_of rip.layout) response (joined_words rip.image files) list = when_told h0 _ (rw before at c.in_ok-list.ensures.matches) files told in
    (answered Done (matches_text list), (list, are, refl), refl, sym text, c.matches_of.ensures.only.same ∙ before ∙ told)))))

pub matches_of-requires-clause-few : goal.matches_of-requires-clause-few
matches_of-requires-clause-few g c =
    let short : length c.deref.result.now ≤ 65536 = search rules in
    let room = blocks_room c.deref.result.now 0 (length c.deref.result.now) c.in_ok-response.response c.in_ok-response.ensures.answer in
    omega (arith, room, short)

pub returns-in_err-bytes-clause-only : goal.returns-in_err-bytes-clause-only
returns-in_err-bytes-clause-only g c = reads_twice _ _ _ _ c.open_input.ensures.only c.read_response_file.ensures.only

pub returns-in_err-response-clause-only : goal.returns-in_err-response-clause-only
returns-in_err-response-clause-only g c = reads_twice _ _ _ _ c.open_input.ensures.only c.read_response_file.ensures.only

pub returns-in_err-list-clause-only : goal.returns-in_err-list-clause-only
returns-in_err-list-clause-only g c = reads_twice _ _ _ _ (reads_twice _ _ _ _ c.open_input.ensures.only c.read_response_file.ensures.only) c.matches_of.ensures.only

pub returns-in_err-text-clause-only : goal.returns-in_err-text-clause-only
returns-in_err-text-clause-only g c = reads_twice _ _ _ _ (reads_twice _ _ _ _ c.open_input.ensures.only c.read_response_file.ensures.only) c.matches_of.ensures.only

pub returns-clause-only : goal.returns-clause-only
returns-clause-only g c = reads_twice _ _ _ _ (reads_twice _ _ _ _ c.open_input.ensures.only c.read_response_file.ensures.only) c.matches_of.ensures.only

pub returns-in_err-bytes-clause-taken : goal.returns-in_err-bytes-clause-taken
returns-in_err-bytes-clause-taken g c =
    let h0 = g.S.Shelf.held c.args.shelf.now in
    let input = c.args.input.now in
    let resp = c.args.resp.now in
    let rip = c.in_ok-layout.field-0 in
    let name = response_name resp (toc_of rip.layout) in
    let named : c.as_str.result.now ≡ name = search rules in
    let most : Files → ℕ = λ files. 11 * all_bytes input resp files in
    let opened_told = λ (files : Files) (told : h0 ≡ Some files). found_told h0 (λ files rip. opened_of rip files) (opened input) c.open_input.result rip (search rules) c.open_input.ensures.answer files told in
    let after_open : SoFar h0 (rip_bytes input) _ _ = more_so_far h0 h0 (λ _. 0) (rip_bytes input) (rip_bytes input) _ _ _ c.open_input.result rip (search rules) refl (none_so_far h0 _) c.open_input.ensures.taken (λ files told. omega arith) in
    let p = err_from_is_err_and c.from_residual-in_err-bytes.result c.from_residual-in_err-bytes.ensures.1 in
    takes_stopped h0 _ (rip_bytes input) (λ files. length (bytes_at name files)) most _ _ _ c.read_response_file.result p.0 c.from_residual-in_err-bytes.result
    (search rules) p.1 c.open_input.ensures.only.same after_open (rw named at c.read_response_file.ensures.taken)
    (λ files told. omega (arith, with_response input resp files (opened_of rip files) (opened_told files told)))

pub returns-in_err-response-clause-taken : goal.returns-in_err-response-clause-taken
returns-in_err-response-clause-taken g c =
    let h0 = g.S.Shelf.held c.args.shelf.now in
    let input = c.args.input.now in
    let resp = c.args.resp.now in
    let rip = c.in_ok-layout.field-0 in
    let name = response_name resp (toc_of rip.layout) in
    let named : c.as_str.result.now ≡ name = search rules in
    let most : Files → ℕ = λ files. 11 * all_bytes input resp files in
    let opened_told = λ (files : Files) (told : h0 ≡ Some files). found_told h0 (λ files rip. opened_of rip files) (opened input) c.open_input.result rip (search rules) c.open_input.ensures.answer files told in
    let after_open : SoFar h0 (rip_bytes input) _ _ = more_so_far h0 h0 (λ _. 0) (rip_bytes input) (rip_bytes input) _ _ _ c.open_input.result rip (search rules) refl (none_so_far h0 _) c.open_input.ensures.taken (λ files told. omega arith) in
    takes_so_far h0 most _ _ _ (more_so_far h0 _ (rip_bytes input) (λ files. length (bytes_at name files)) most _ _ _ c.read_response_file.result c.in_ok-bytes.bytes (search rules) c.open_input.ensures.only.same after_open
    (rw named at c.read_response_file.ensures.taken) (λ files told. omega (arith, with_response input resp files (opened_of rip files) (opened_told files told))))

pub returns-in_err-list-clause-taken : goal.returns-in_err-list-clause-taken
returns-in_err-list-clause-taken g c =
    let h0 = g.S.Shelf.held c.args.shelf.now in
    let input = c.args.input.now in
    let resp = c.args.resp.now in
    let rip = c.in_ok-layout.field-0 in
    let name = response_name resp (toc_of rip.layout) in
    let named : c.as_str.result.now ≡ name = search rules in
    let most : Files → ℕ = λ files. 11 * all_bytes input resp files in
    let opened_told = λ (files : Files) (told : h0 ≡ Some files). found_told h0 (λ files rip. opened_of rip files) (opened input) c.open_input.result rip (search rules) c.open_input.ensures.answer files told in
    let after_open : SoFar h0 (rip_bytes input) _ _ = more_so_far h0 h0 (λ _. 0) (rip_bytes input) (rip_bytes input) _ _ _ c.open_input.result rip (search rules) refl (none_so_far h0 _) c.open_input.ensures.taken (λ files told. omega arith) in
    let after_read : SoFar h0 (all_bytes input resp) _ _ = more_so_far h0 _ (rip_bytes input) (λ files. length (bytes_at name files)) (all_bytes input resp) _ _ _ c.read_response_file.result c.in_ok-bytes.bytes (search rules) c.open_input.ensures.only.same after_open
    (rw named at c.read_response_file.ensures.taken) (λ files told. omega (arith, with_response input resp files (opened_of rip files) (opened_told files told))) in
    let p = err_from_is_err_and c.from_residual-in_err-list.result c.from_residual-in_err-list.ensures.1 in
    takes_stopped h0 _ (all_bytes input resp) (λ _. 20 * word_count rip.image) most _ _ _ c.matches_of.result p.0 c.from_residual-in_err-list.result
    (search rules) p.1 (c.read_response_file.ensures.only.same ∙ c.open_input.ensures.only.same) after_read (if_told _ _ (λ _ _. c.matches_of.ensures.taken))
    (λ files told. omega (arith, opened_bytes input files (opened_of rip files) (opened_told files told), rip_matched input resp files, c.in_ok-layout.ensures.count))

pub returns-in_err-text-clause-taken : goal.returns-in_err-text-clause-taken
returns-in_err-text-clause-taken g c =
    let h0 = g.S.Shelf.held c.args.shelf.now in
    let input = c.args.input.now in
    let resp = c.args.resp.now in
    let rip = c.in_ok-layout.field-0 in
    let name = response_name resp (toc_of rip.layout) in
    let named : c.as_str.result.now ≡ name = search rules in
    let most : Files → ℕ = λ files. 11 * all_bytes input resp files in
    let opened_told = λ (files : Files) (told : h0 ≡ Some files). found_told h0 (λ files rip. opened_of rip files) (opened input) c.open_input.result rip (search rules) c.open_input.ensures.answer files told in
    let after_open : SoFar h0 (rip_bytes input) _ _ = more_so_far h0 h0 (λ _. 0) (rip_bytes input) (rip_bytes input) _ _ _ c.open_input.result rip (search rules) refl (none_so_far h0 _) c.open_input.ensures.taken (λ files told. omega arith) in
    let after_read : SoFar h0 (all_bytes input resp) _ _ = more_so_far h0 _ (rip_bytes input) (λ files. length (bytes_at name files)) (all_bytes input resp) _ _ _ c.read_response_file.result c.in_ok-bytes.bytes (search rules) c.open_input.ensures.only.same after_open
    (rw named at c.read_response_file.ensures.taken) (λ files told. omega (arith, with_response input resp files (opened_of rip files) (opened_told files told))) in
    takes_so_far h0 most _ _ _ (more_so_far h0 _ (all_bytes input resp) (λ _. 20 * word_count rip.image) most _ _ _ c.matches_of.result c.in_ok-list.list (search rules) (c.read_response_file.ensures.only.same ∙ c.open_input.ensures.only.same) after_read
    (if_told _ _ (λ _ _. c.matches_of.ensures.taken))
    (λ files told. omega (arith, opened_bytes input files (opened_of rip files) (opened_told files told), rip_matched input resp files, c.in_ok-layout.ensures.count)))

pub returns-clause-taken : goal.returns-clause-taken
returns-clause-taken g c =
    let h0 = g.S.Shelf.held c.args.shelf.now in
    let input = c.args.input.now in
    let resp = c.args.resp.now in
    let rip = c.in_ok-layout.field-0 in
    let name = response_name resp (toc_of rip.layout) in
    let named : c.as_str.result.now ≡ name = search rules in
    let most : Files → ℕ = λ files. 11 * all_bytes input resp files in
    let opened_told = λ (files : Files) (told : h0 ≡ Some files). found_told h0 (λ files rip. opened_of rip files) (opened input) c.open_input.result rip (search rules) c.open_input.ensures.answer files told in
    let after_open : SoFar h0 (rip_bytes input) _ _ = more_so_far h0 h0 (λ _. 0) (rip_bytes input) (rip_bytes input) _ _ _ c.open_input.result rip (search rules) refl (none_so_far h0 _) c.open_input.ensures.taken (λ files told. omega arith) in
    let after_read : SoFar h0 (all_bytes input resp) _ _ = more_so_far h0 _ (rip_bytes input) (λ files. length (bytes_at name files)) (all_bytes input resp) _ _ _ c.read_response_file.result c.in_ok-bytes.bytes (search rules) c.open_input.ensures.only.same after_open
    (rw named at c.read_response_file.ensures.taken) (λ files told. omega (arith, with_response input resp files (opened_of rip files) (opened_told files told))) in
    let result : Result Answer Stop = Ok record { status = Done; text = c.in_ok-text.text } in
    takes_so_far h0 most _ _ result (more_so_far h0 _ (all_bytes input resp) (λ _. 20 * word_count rip.image) most _ _ _ c.matches_of.result c.in_ok-list.list (search rules) (c.read_response_file.ensures.only.same ∙ c.open_input.ensures.only.same) after_read
    (if_told _ _ (λ _ _. c.matches_of.ensures.taken))
    (λ files told. omega (arith, opened_bytes input files (opened_of rip files) (opened_told files told), rip_matched input resp files, c.in_ok-layout.ensures.count)))
