use Rattle.std.proofs.Common.{◌≡◌, ◌∙◌, ap, ◌*◌, ◌≤◌, [], ◌∷◌, Ok, Some, false, arith, rules, sym}
use Rattle.std.specs.List.{list_any}
use Rattle.std.specs.Str.{bytes_eq}
use Rattle.rip_outside.proofs.FilesLaws.{if_told_weaker, when_told}
use Rattle.column_map.specs.Columns.{per_column}
use Rattle.image_mender.specs.Joined.{AreInFiles, word_count, joined_words}
use Rattle.image_mender.proofs.JoinLaws.{length-joined_words}
use Rattle.rip_outside.specs.Outputs.{part_of}
use Rattle.engine_steps.specs.Comparing.{both_of, known_of, names_of}
use Rattle.engine_steps.specs.Steps.{compared, free}
use Rattle.engine_search.specs.Picking.{Picks, Mends}
use Rattle.cmd_repair.specs.RepairOutcome.{IsWrittenOutcome, answer_told, IsRepairOutcome}
use Rattle.engine_steps.specs.Outcome.{Then, ThenOf, output, written}
use Rattle.engine_search.proofs.PickLaws.{compared_picks, covered_below}
use Rattle.engine_steps.proofs.NameLaws.{unread_differs}
use Rattle.cmd_repair.proofs.RepairLaws.{written_of, repair_meets, written_meets}
use Rattle.engine_steps.proofs.Leaving.{free_told, stopped, went_on, went_on_of}
use Rattle.std.proofs.lemmas.Result.{err_from_is_err_and}
use Rattle.std.proofs.lemmas.List.Elements.{Contains-append_left}
use Rattle.rip_outside.specs.Files.{Files}
use Rattle.engine_steps.proofs.TakingLaws.{found_told}
use Rattle.engine_search.proofs.SealingLaws.{compare_stopped, compare_went, compared_bytes, compared_image, compared_sealing, sealed_more, sealed_stopped}
use Rattle.rip_outside.proofs.CrashLaws.{told_rests_twice}
use Rattle.wav_frames.specs.Wav.{wav_bytes}
use Rattle.image_mender.specs.Patched.{patched}
use Rattle.rip_report.specs.Texts.{written_text}
use Rattle.engine_steps.proofs.CrashingLaws.{safe_after, safe_rests, safe_weaker}
use Rattle.cmd_repair.proofs.mend.Goals as goal

pub write_repair-requires-clause-apart : goal.write_repair-requires-clause-apart
write_repair-requires-clause-apart g c = λ k d below same.
    let named = c.in_ok-image.ensures.named k d below in
    let found = c.in_ok-image.field-0 in
    let unread : list_any (bytes_eq c.as_str-4.result.now) (names_of found) ≡ false = search rules in
    unread_differs c.as_str-4.result.now (names_of found) _ unread (Contains-append_left found.names (found.rec ∷ []) _ named) same

pub write_repair-requires-clause-lie : goal.write_repair-requires-clause-lie
write_repair-requires-clause-lie g c =
    let found = c.in_ok-image.field-0 in
    let low : 30 ≤ found.shape = c.in_ok-image.ensures.range.0 in
    covered_below (per_column found.shape) (word_count found.image) c.in_ok-picked.picked.at.offset c.in_ok-picked.picked.fixes.items (omega (arith, c.in_ok-image.ensures.count)) c.in_ok-picked.ensures.lie

pub write_repair-requires-clause-rising : goal.write_repair-requires-clause-rising
write_repair-requires-clause-rising g c = c.in_ok-picked.ensures.lie.rising

pub returns-clause-leaves : goal.returns-clause-leaves
returns-clause-leaves g c =
    let h0 = g.S.Shelf.held c.args.shelf.now in
    let input = c.args.input.now in
    let rec = c.args.rec.now in
    let to = c.args.to.now in
    let offset = c.args.offset in
    let found = c.in_ok-image.field-0 in
    let at = c.in_ok-picked.picked.at in
    let fixes = c.in_ok-picked.picked.fixes.items in
    let before = c.check_free.ensures.only.same ∙ c.compare.ensures.only.same in
    let picks = rw before at c.mend_of.ensures.picks in
    let mends = rw before at c.in_ok-picked.ensures.fixes in
    let picked = rw before at c.in_ok-picked.ensures.picks in
    let read : c.is_read-is_read.result ≡ list_any (bytes_eq (part_of to)) (names_of found) = search rules in
    went_on both_of (compared input rec) (λ files both. Then (free (to ∷ []) both.1 files) (λ _. ThenOf (Picks offset both.0) (λ at. IsWrittenOutcome to both.0 at))) h0 _ c.compare.result found (answer_told c.write_repair.result)
    (search rules) c.compare.ensures.answer
    (went_on (λ _ _. tt) (free (to ∷ []) (names_of found)) (λ files _. ThenOf (Picks offset (known_of files found)) (λ at. IsWrittenOutcome to (known_of files found) at)) h0 _ c.check_free.result c.in_ok-check_free.field-0 (answer_told c.write_repair.result)
    (search rules) (free_told to (names_of found) h0 c.check_free.result (rw (c.compare.ensures.only.same, read) at c.check_free.ensures.answer))
    (went_on_of (λ _ picked. picked.at) (λ files. Picks offset (known_of files found)) (λ files at. IsWrittenOutcome to (known_of files found) at) h0 _ c.mend_of.result c.in_ok-picked.picked (answer_told c.write_repair.result)
    (search rules) picks
    (written_of h0 _ found offset at fixes to (answer_told c.write_repair.result) c.in_ok-image.ensures.range
    (if_told_weaker h0 (AreInFiles found.image) _ (λ files inside. length-joined_words found.image files inside ∙ c.in_ok-image.ensures.count) c.in_ok-image.ensures.inside)
    picked mends
    (rw (c.mend_of.ensures.only.same ∙ before) at c.write_repair.ensures.leaves))))

pub returns-in_err-check_free-clause-leaves : goal.returns-in_err-check_free-clause-leaves
returns-in_err-check_free-clause-leaves g c =
    let h0 = g.S.Shelf.held c.args.shelf.now in
    let input = c.args.input.now in
    let rec = c.args.rec.now in
    let to = c.args.to.now in
    let offset = c.args.offset in
    let found = c.in_ok-image.field-0 in
    let read : c.is_read-is_read.result ≡ list_any (bytes_eq (part_of to)) (names_of found) = search rules in
    let p = err_from_is_err_and c.from_residual-in_err-check_free.result c.from_residual-in_err-check_free.ensures.1 in
    went_on both_of (compared input rec) (λ files both. Then (free (to ∷ []) both.1 files) (λ _. ThenOf (Picks offset both.0) (λ at. IsWrittenOutcome to both.0 at))) h0 _ c.compare.result found (answer_told c.from_residual-in_err-check_free.result)
    (search rules) c.compare.ensures.answer
    (stopped (λ _ _. tt) (free (to ∷ []) (names_of found)) (λ files _. ThenOf (Picks offset (known_of files found)) (λ at. IsWrittenOutcome to (known_of files found) at)) _ _ h0 _ c.check_free.result p.0 (answer_told c.from_residual-in_err-check_free.result)
    (search rules) (ap answer_told p.1) (c.check_free.ensures.only.same ∙ c.compare.ensures.only.same) c.check_free.ensures.cause
    (free_told to (names_of found) h0 c.check_free.result (rw (c.compare.ensures.only.same, read) at c.check_free.ensures.answer)))

pub returns-in_err-image-clause-taken : goal.returns-in_err-image-clause-taken
returns-in_err-image-clause-taken g c =
    let p = err_from_is_err_and c.from_residual.result c.from_residual.ensures.1 in
    compare_stopped (g.S.Shelf.held c.args.shelf.now) (compared c.args.input.now c.args.rec.now) c.args.offset (compared_bytes c.args.input.now c.args.rec.now) _ _ c.compare.result p.0 c.from_residual.result (search rules) p.1 c.compare.ensures.taken

pub returns-in_err-part-clause-taken : goal.returns-in_err-part-clause-taken
returns-in_err-part-clause-taken g c =
    compare_went (g.S.Shelf.held c.args.shelf.now) (compared c.args.input.now c.args.rec.now) c.args.offset (compared_bytes c.args.input.now c.args.rec.now) _ _ c.compare.result c.in_ok-image.field-0 c.from_residual-in_err-part.result (search rules) c.compare.ensures.taken

pub returns-in_err-check_free-clause-taken : goal.returns-in_err-check_free-clause-taken
returns-in_err-check_free-clause-taken g c =
    rw c.check_free.ensures.taken (compare_went (g.S.Shelf.held c.args.shelf.now) (compared c.args.input.now c.args.rec.now) c.args.offset (compared_bytes c.args.input.now c.args.rec.now) _ _ c.compare.result c.in_ok-image.field-0 c.from_residual-in_err-check_free.result (search rules) c.compare.ensures.taken)

pub returns-in_err-picked-clause-taken : goal.returns-in_err-picked-clause-taken
returns-in_err-picked-clause-taken g c =
    let h0 = g.S.Shelf.held c.args.shelf.now in
    let input = c.args.input.now in
    let rec = c.args.rec.now in
    let found = c.in_ok-image.field-0 in
    let p = err_from_is_err_and c.from_residual-in_err-picked.result c.from_residual-in_err-picked.ensures.1 in
    sealed_stopped h0 (compared input rec) c.args.offset (compared_bytes input rec) _ _ c.mend_of.result p.0 c.from_residual-in_err-picked.result (search rules) p.1
    (compared_sealing h0 _ input rec found c.args.offset _ _ _ c.compare.result c.mend_of.result (search rules) (c.check_free.ensures.only.same ∙ c.compare.ensures.only.same) c.compare.ensures.answer
    (rw (← c.check_free.ensures.taken) at c.compare.ensures.taken) c.in_ok-image.ensures.count c.mend_of.ensures.taken)

pub returns-clause-taken : goal.returns-clause-taken
returns-clause-taken g c =
    let h0 = g.S.Shelf.held c.args.shelf.now in
    let input = c.args.input.now in
    let rec = c.args.rec.now in
    let found = c.in_ok-image.field-0 in
    sealed_more h0 (compared input rec) c.args.offset (compared_bytes input rec) _ _ c.mend_of.result c.in_ok-picked.picked _ (2 * word_count found.image) c.write_repair.result (search rules)
    (compared_sealing h0 _ input rec found c.args.offset _ _ _ c.compare.result c.mend_of.result (search rules) (c.check_free.ensures.only.same ∙ c.compare.ensures.only.same) c.compare.ensures.answer
    (rw (← c.check_free.ensures.taken) at c.compare.ensures.taken) c.in_ok-image.ensures.count c.mend_of.ensures.taken)
    (compared_image h0 input rec found c.compare.result (search rules) c.compare.ensures.answer c.in_ok-image.ensures.count)
    c.write_repair.ensures.taken

pub returns-clause-picks : goal.returns-clause-picks
returns-clause-picks g c =
    let h0 = g.S.Shelf.held c.args.shelf.now in
    let found = c.in_ok-image.field-0 in
    let before = c.check_free.ensures.only.same ∙ c.compare.ensures.only.same in
    compared_picks h0 found (compared c.args.input.now c.args.rec.now) c.args.offset c.in_ok-picked.picked.at c.write_repair.result
    (found_told h0 both_of (compared c.args.input.now c.args.rec.now) c.compare.result found (search rules) c.compare.ensures.answer)
    (rw before at c.in_ok-picked.ensures.picks) c.write_repair.ensures.at

pub returns-in_err-check_free-clause-crashes : goal.returns-in_err-check_free-clause-crashes
returns-in_err-check_free-clause-crashes g c = safe_rests _ _ _ _ (told_rests_twice _ _ _ c.compare.ensures.only.crashes c.check_free.ensures.only.crashes)

pub returns-in_err-picked-clause-crashes : goal.returns-in_err-picked-clause-crashes
returns-in_err-picked-clause-crashes g c = safe_rests _ _ _ _ (told_rests_twice _ _ _ (told_rests_twice _ _ _ c.compare.ensures.only.crashes c.check_free.ensures.only.crashes) c.mend_of.ensures.only.crashes)

pub returns-clause-crashes : goal.returns-clause-crashes
returns-clause-crashes g c =
    let tells = g.met.S.Shelf.tells_held in
    let h0 = g.S.Shelf.held c.args.shelf.now in
    let input = c.args.input.now in
    let rec = c.args.rec.now in
    let to = c.args.to.now in
    let offset = c.args.offset in
    let found = c.in_ok-image.field-0 in
    let at = c.in_ok-picked.picked.at in
    let fixes = c.in_ok-picked.picked.fixes.items in
    let before = c.check_free.ensures.only.same ∙ c.compare.ensures.only.same in
    let mends = rw before at c.in_ok-picked.ensures.fixes in
    let picked = rw before at c.in_ok-picked.ensures.picks in
    let read : c.is_read-is_read.result ≡ list_any (bytes_eq (part_of to)) (names_of found) = search rules in
    let both : (files : Files) → h0 ≡ Some files → compared input rec files ≡ Ok (both_of files found) = λ files told. found_told h0 both_of (compared input rec) c.compare.result found (search rules) c.compare.ensures.answer files told in
    let is_free : (files : Files) → h0 ≡ Some files → free (to ∷ []) (names_of found) files ≡ Ok tt = λ files told.
    found_told h0 (λ _ _. tt) (free (to ∷ []) (names_of found)) c.check_free.result c.in_ok-check_free.field-0 (search rules) (free_told to (names_of found) h0 c.check_free.result (rw (c.compare.ensures.only.same, read) at c.check_free.ensures.answer)) files told in
    safe_after (IsRepairOutcome input rec to offset) _ _ _ _ (told_rests_twice _ _ _ (told_rests_twice _ _ _ c.compare.ensures.only.crashes c.check_free.ensures.only.crashes) c.mend_of.ensures.only.crashes)
    (safe_weaker (λ files o. o ≡ written (written_text at to) (output to (wav_bytes (patched fixes (joined_words found.image files))) ∷ [])) (IsRepairOutcome input rec to offset) _ _ _ _ _ (tells c.mend_of.new.shelf) (tells c.write_repair.new.shelf)
    (λ files told o is.
    let told0 : h0 ≡ Some files = sym (c.mend_of.ensures.only.same ∙ before) ∙ told in
    let inside = when_told h0 (AreInFiles found.image) c.in_ok-image.ensures.inside files told0 in
    let picks = when_told h0 (λ files. Picks offset (known_of files found) (Ok at)) picked files told0 in
    let mend = when_told h0 (λ files. Mends (known_of files found) at fixes) mends files told0 in
    repair_meets input rec to offset (both_of files found) at files o (both files told0) (is_free files told0) picks
    (written_meets found offset at fixes to files o c.in_ok-image.ensures.range (length-joined_words found.image files inside ∙ c.in_ok-image.ensures.count) picks mend is)) c.write_repair.ensures.crashes)
