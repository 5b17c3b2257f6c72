use Rattle.std.proofs.Common.{◌≡◌, ◌++◌, Result, Ok, ℕ, List, [], ◌∷◌, length, ap₂, arith, refl, sym, rules}
use Rattle.std.proofs.lemmas.Result.{err_from_is_err_and}
use Rattle.rip_outside.specs.Files.{Files, bytes_at}
use Rattle.rip_outside.proofs.FilesLaws.{if_told}
use Rattle.disc_toc.specs.Toc.{toc_of}
use Rattle.parity_store.specs.Naming.{record_name_of}
use Rattle.parity_store.specs.Reading.{Stored, stored_of}
use Rattle.image_mender.specs.Joined.{joined_words}
use Rattle.rip_inputs.specs.Opening.{Opened, lengths_of, names_read}
use Rattle.rip_inputs.specs.Telling.{opened_of}
use Rattle.rip_inputs.specs.declared.rip.Rip.{Rip}
use Rattle.column_map.specs.declared.shape.Shape.{Shape}
use Rattle.rip_report.specs.declared.status.Status.{Status}
use Rattle.engine_steps.specs.Comparing.{both_of, compared_names}
use Rattle.engine_steps.specs.Steps.{Known, and_then, known_by, measured, recorded, same_layout}
use Rattle.engine_steps.specs.declared.comparing.Compared.{Compared}
use Rattle.engine_steps.specs.declared.steps.Stop.{Stop}
use Rattle.engine_steps.proofs.StepLaws.{failed, passed}
use Rattle.engine_steps.proofs.TakingLaws.{found_told, more_so_far, none_so_far, takes_so_far, takes_stopped, with_record}
use Rattle.rip_outside.proofs.ReadingLaws.{reads_twice}
use Rattle.engine_steps.proofs.comparing.compare.Goals as goal

-- what comes of one layout
abbrev known : List ℕ → Opened → Stored → Result (Known × List (List ℕ)) Status
known rec rip stored = Ok (known_by rip stored, rip.names ++ record_name_of rec rip.toc ∷ [])

-- what comes of a record
abbrev alike : List ℕ → Opened → Stored → Result (Known × List (List ℕ)) Status
alike rec rip stored = and_then (same_layout rip.toc stored.toc) (λ _. known rec rip stored)

-- what comes of a rip
abbrev found : List ℕ → Files → Opened → Result (Known × List (List ℕ)) Status
found rec files rip = and_then (recorded (record_name_of rec rip.toc) files) (alike rec rip)

pub returns-in_err-stored-clause-answer : goal.returns-in_err-stored-clause-answer
returns-in_err-stored-clause-answer g c =
    let h0 = g.S.Shelf.held c.args.shelf.now in
    let rec = c.args.rec.now in
    let rip = c.in_ok-rip.rip in
    let name = record_name_of rec (toc_of rip.layout) in
    let named : c.as_str.result.now ≡ name = search rules in
    let p = err_from_is_err_and c.from_residual-in_err-stored.result c.from_residual-in_err-stored.ensures.1 in
    passed (λ files (found : Rip × Shape). opened_of found.0 files) both_of (measured c.args.input.now) (found rec) h0 c.open_measured.result (rip, c.in_ok-rip.shape) c.from_residual-in_err-stored.result
    (search rules) c.open_measured.ensures.answer
    (failed (λ _. stored_of) both_of (recorded name) (λ files. alike rec (opened_of rip files)) h0 c.find_record.result p.0 c.from_residual-in_err-stored.result
    (search rules) p.1 (rw (c.open_measured.ensures.only.same, named) at c.find_record.ensures.answer))

pub returns-in_err-check_layout-clause-answer : goal.returns-in_err-check_layout-clause-answer
returns-in_err-check_layout-clause-answer g c =
    let h0 = g.S.Shelf.held c.args.shelf.now in
    let rec = c.args.rec.now in
    let rip = c.in_ok-rip.rip in
    let toc = toc_of rip.layout in
    let name = record_name_of rec toc in
    let named : c.as_str.result.now ≡ name = search rules in
    let stored = stored_of c.in_ok-stored.stored in
    let p = err_from_is_err_and c.from_residual-in_err-check_layout.result c.from_residual-in_err-check_layout.ensures.1 in
    passed (λ files (found : Rip × Shape). opened_of found.0 files) both_of (measured c.args.input.now) (found rec) h0 c.open_measured.result (rip, c.in_ok-rip.shape) c.from_residual-in_err-check_layout.result
    (search rules) c.open_measured.ensures.answer
    (passed (λ _. stored_of) both_of (recorded name) (λ files. alike rec (opened_of rip files)) h0 c.find_record.result c.in_ok-stored.stored c.from_residual-in_err-check_layout.result
    (search rules) (rw (c.open_measured.ensures.only.same, named) at c.find_record.ensures.answer)
    (failed (λ _ _. tt) both_of (λ _. same_layout toc stored.toc) (λ files _. known rec (opened_of rip files) stored) h0 c.check_layout.result p.0 c.from_residual-in_err-check_layout.result
    (search rules) p.1 (if_told h0 _ (λ _ _. c.check_layout.ensures.answer))))

pub returns-clause-answer : goal.returns-clause-answer
returns-clause-answer g c =
    let h0 = g.S.Shelf.held c.args.shelf.now in
    let rec = c.args.rec.now in
    let rip = c.in_ok-rip.rip in
    let toc = toc_of rip.layout in
    let name = record_name_of rec toc in
    let named : c.as_str.result.now ≡ name = search rules in
    let stored = stored_of c.in_ok-stored.stored in
    let sectors : toc.sectors ≡ c.in_ok-rip.shape = sym c.in_ok-rip.ensures.shape in
    let own : name ≡ c.in_ok-name.name = sym c.in_ok-name.ensures in
    let result : Result Compared Stop = Ok record { layout = rip.layout; image = rip.image; shape = c.in_ok-rip.shape; parity = c.in_ok-stored.stored.parity; seal = c.in_ok-stored.stored.seal; names = rip.names; rec = c.in_ok-name.name } in
    let made : Files → ℕ → List ℕ → Result (Known × List (List ℕ)) Status = λ files s n. Ok (record { sectors = s; words = joined_words rip.image files; count = stored.count; stored = stored.rows; seal = stored.seal }, rip.names ++ n ∷ []) in
    passed (λ files (found : Rip × Shape). opened_of found.0 files) both_of (measured c.args.input.now) (found rec) h0 c.open_measured.result (rip, c.in_ok-rip.shape) result
    (search rules) c.open_measured.ensures.answer
    (passed (λ _. stored_of) both_of (recorded name) (λ files. alike rec (opened_of rip files)) h0 c.find_record.result c.in_ok-stored.stored result
    (search rules) (rw (c.open_measured.ensures.only.same, named) at c.find_record.ensures.answer)
    (passed (λ _ _. tt) both_of (λ _. same_layout toc stored.toc) (λ files _. known rec (opened_of rip files) stored) h0 c.check_layout.result c.in_ok-check_layout.field-0 result
    (search rules) (if_told h0 _ (λ _ _. c.check_layout.ensures.answer)) (if_told h0 _ (λ files _. ap₂ (made files) sectors own))))

-- the bytes of the rip's files, of the record, and of both
abbrev rip_bytes : List ℕ → Files → ℕ
rip_bytes input files = lengths_of (names_read input files) files

abbrev all_bytes : List ℕ → List ℕ → Files → ℕ
all_bytes input rec files = lengths_of (compared_names input rec files) files

pub returns-in_err-stored-clause-taken : goal.returns-in_err-stored-clause-taken
returns-in_err-stored-clause-taken g c =
    let h0 = g.S.Shelf.held c.args.shelf.now in
    let input = c.args.input.now in
    let rec = c.args.rec.now in
    let rip = c.in_ok-rip.rip in
    let name = record_name_of rec (toc_of rip.layout) in
    let named : c.as_str.result.now ≡ name = search rules in
    let p = err_from_is_err_and c.from_residual-in_err-stored.result c.from_residual-in_err-stored.ensures.1 in
    let view : Files → Rip × Shape → Opened = λ files found. opened_of found.0 files in
    takes_stopped h0 _ (rip_bytes input) (λ files. length (bytes_at name files)) (all_bytes input rec) _ _ _ c.find_record.result p.0 c.from_residual-in_err-stored.result
    (search rules) p.1 c.open_measured.ensures.only.same
    (more_so_far h0 h0 (λ _. 0) (rip_bytes input) (rip_bytes input) _ _ _ c.open_measured.result (rip, c.in_ok-rip.shape) (search rules) refl (none_so_far h0 _) c.open_measured.ensures.taken (λ files told. omega arith))
    (rw named at c.find_record.ensures.taken)
    (λ files told.
    let read : measured input files ≡ Ok (opened_of rip files) = found_told h0 view (measured input) c.open_measured.result (rip, c.in_ok-rip.shape) (search rules) c.open_measured.ensures.answer files told in
    omega (arith, with_record input rec files (opened_of rip files) read))

pub returns-in_err-check_layout-clause-taken : goal.returns-in_err-check_layout-clause-taken
returns-in_err-check_layout-clause-taken g c =
    let h0 = g.S.Shelf.held c.args.shelf.now in
    let input = c.args.input.now in
    let rec = c.args.rec.now in
    let rip = c.in_ok-rip.rip in
    let name = record_name_of rec (toc_of rip.layout) in
    let named : c.as_str.result.now ≡ name = search rules in
    let view : Files → Rip × Shape → Opened = λ files found. opened_of found.0 files in
    takes_so_far h0 (all_bytes input rec) _ _ _
    (more_so_far h0 _ (rip_bytes input) (λ files. length (bytes_at name files)) (all_bytes input rec) _ _ _ c.find_record.result c.in_ok-stored.stored (search rules) c.open_measured.ensures.only.same
    (more_so_far h0 h0 (λ _. 0) (rip_bytes input) (rip_bytes input) _ _ _ c.open_measured.result (rip, c.in_ok-rip.shape) (search rules) refl (none_so_far h0 _) c.open_measured.ensures.taken (λ files told. omega arith))
    (rw named at c.find_record.ensures.taken)
    (λ files told.
    let read : measured input files ≡ Ok (opened_of rip files) = found_told h0 view (measured input) c.open_measured.result (rip, c.in_ok-rip.shape) (search rules) c.open_measured.ensures.answer files told in
    omega (arith, with_record input rec files (opened_of rip files) read)))

pub returns-clause-taken : goal.returns-clause-taken
returns-clause-taken g c =
    let h0 = g.S.Shelf.held c.args.shelf.now in
    let input = c.args.input.now in
    let rec = c.args.rec.now in
    let rip = c.in_ok-rip.rip in
    let name = record_name_of rec (toc_of rip.layout) in
    let named : c.as_str.result.now ≡ name = search rules in
    let view : Files → Rip × Shape → Opened = λ files found. opened_of found.0 files in
    let result : Result Compared Stop = Ok record { layout = rip.layout; image = rip.image; shape = c.in_ok-rip.shape; parity = c.in_ok-stored.stored.parity; seal = c.in_ok-stored.stored.seal; names = rip.names; rec = c.in_ok-name.name } in
    takes_so_far h0 (all_bytes input rec) _ _ result
    (more_so_far h0 _ (rip_bytes input) (λ files. length (bytes_at name files)) (all_bytes input rec) _ _ _ c.find_record.result c.in_ok-stored.stored (search rules) c.open_measured.ensures.only.same
    (more_so_far h0 h0 (λ _. 0) (rip_bytes input) (rip_bytes input) _ _ _ c.open_measured.result (rip, c.in_ok-rip.shape) (search rules) refl (none_so_far h0 _) c.open_measured.ensures.taken (λ files told. omega arith))
    (rw named at c.find_record.ensures.taken)
    (λ files told.
    let read : measured input files ≡ Ok (opened_of rip files) = found_told h0 view (measured input) c.open_measured.result (rip, c.in_ok-rip.shape) (search rules) c.open_measured.ensures.answer files told in
    omega (arith, with_record input rec files (opened_of rip files) read)))

pub returns-in_err-stored-clause-only : goal.returns-in_err-stored-clause-only
returns-in_err-stored-clause-only g c = reads_twice _ _ _ _ c.open_measured.ensures.only c.find_record.ensures.only

pub returns-in_err-check_layout-clause-only : goal.returns-in_err-check_layout-clause-only
returns-in_err-check_layout-clause-only g c = reads_twice _ _ _ _ c.open_measured.ensures.only c.find_record.ensures.only

pub returns-clause-only : goal.returns-clause-only
returns-clause-only g c = reads_twice _ _ _ _ c.open_measured.ensures.only c.find_record.ensures.only
