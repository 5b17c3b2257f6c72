use Rattle.std.proofs.Common.{◌≡◌, ◌∙◌, ◌*◌, ℕ, List, Ok, None, Some, IfSome, rules, subst, sym}
use Rattle.std.specs.Prelude.{Option}
use Rattle.std.specs.List.{list_any}
use Rattle.std.specs.Str.{bytes_eq}
use Rattle.std.proofs.lemmas.Result.{err_from_is_err_and}
use Rattle.rip_outside.specs.Files.{Files}
use Rattle.rip_outside.specs.Outputs.{part_of}
use Rattle.rip_outside.proofs.CrashLaws.{told_rests_twice}
use Rattle.rip_outside.proofs.FilesLaws.{if_told, when_told}
use Rattle.disc_toc.specs.Toc.{Toc, toc_of}
use Rattle.image_mender.specs.Joined.{joined_words, word_count}
use Rattle.parity_store.specs.Naming.{record_name_of}
use Rattle.parity_store.specs.Record.{parity_count, parity_rows}
use Rattle.engine_steps.specs.Comparing.{both_of, known_of, names_of}
use Rattle.engine_steps.specs.declared.comparing.Compared.{Compared}
use Rattle.engine_steps.specs.Outcome.{Leaves, Outcome, ThenOf}
use Rattle.engine_steps.specs.Steps.{Does, Known, Meets, compared, known_from}
use Rattle.engine_steps.proofs.CrashingLaws.{safe_after, safe_rests, safe_weaker}
use Rattle.engine_steps.proofs.Leaving.{reads_nothing, stopped, stopped_of, went_on, went_on_of}
use Rattle.engine_steps.proofs.TakingLaws.{found_told}
use Rattle.engine_search.specs.Agreement.{TakesSealing}
use Rattle.engine_search.specs.Picking.{Picks}
use Rattle.engine_search.specs.declared.picking.Picked.{Picked}
use Rattle.engine_search.proofs.SealingLaws.{compared_bytes, compared_image, compared_sealing}
use Rattle.cmd_upgrade.specs.UpgradeOutcome.{IsSealedOutcome, IsUpgradeOutcome, upgradable}
use Rattle.cmd_upgrade.proofs.UpgradeLaws.{ComparedTo, record_held, upgrade_done, upgrade_left, upgrade_more, upgrade_of_left, upgrade_so_far, upgrade_stopped}
use Rattle.cmd_upgrade.proofs.upgrade.Goals as goal

-- what comes of a rip and a record of which the layout and the seal are known
abbrev picked_outcome : List ℕ → Toc → (Files → Known) → Files → Outcome → Type 0
picked_outcome name toc known files = ThenOf (Picks None (known files)) (λ at. IsSealedOutcome name toc (known files) at)

-- without a seal
abbrev unsealed_of : Compared → Files → Option (List ℕ) → Known
unsealed_of found files seal = known_from found.shape (joined_words found.image files) (parity_count found.parity) (parity_rows found.parity) seal

pub returns-in_err-layout-clause-leaves : goal.returns-in_err-layout-clause-leaves
returns-in_err-layout-clause-leaves g c =
    let h0 = g.S.Shelf.held c.args.shelf.now in
    let input = c.args.input.now in
    let rec = c.args.rec.now in
    let p = err_from_is_err_and c.from_residual.result c.from_residual.ensures.1 in
    upgrade_left input rec h0 _ c.from_residual.result
    (stopped both_of (compared input rec) (λ files. ComparedTo input rec files) _ _ h0 _ c.compare.result p.0 c.from_residual.result (search rules) p.1 c.compare.ensures.only.same c.compare.ensures.cause c.compare.ensures.answer)

pub returns-in_err-check_upgradable-clause-leaves : goal.returns-in_err-check_upgradable-clause-leaves
returns-in_err-check_upgradable-clause-leaves g c =
    let h0 = g.S.Shelf.held c.args.shelf.now in
    let input = c.args.input.now in
    let rec = c.args.rec.now in
    let found = c.in_ok-layout.field-0 in
    let toc = toc_of found.layout in
    let name = record_name_of rec toc in
    let read : c.is_read-is_read.result ≡ list_any (bytes_eq (part_of name)) (names_of found) = search rules in
    let named : c.as_str-4.result.now ≡ name = search rules in
    let may : Does (λ _. tt) c.check_upgradable.result (upgradable name found.seal (names_of found)) = rw named at (c.check_upgradable.ensures.answer (names_of found) (search rules)) in
    let p = err_from_is_err_and c.from_residual-in_err-check_upgradable.result c.from_residual-in_err-check_upgradable.ensures.1 in
    upgrade_left input rec h0 _ c.from_residual-in_err-check_upgradable.result
    (went_on both_of (compared input rec) (λ files. ComparedTo input rec files) h0 _ c.compare.result found c.from_residual-in_err-check_upgradable.result (search rules) c.compare.ensures.answer
    (upgrade_of_left input rec toc (λ files. both_of files found) h0 _ c.from_residual-in_err-check_upgradable.result c.in_ok-layout.ensures.opens
    (stopped (λ _ _. tt) (λ files. upgradable name found.seal (names_of found)) (λ files _. picked_outcome name toc (λ files. known_of files found) files) (λ _. 0) (λ _. 0) h0 _ c.check_upgradable.result p.0 c.from_residual-in_err-check_upgradable.result
    (search rules) p.1 c.compare.ensures.only.same (reads_nothing (λ _. 0) (λ _. 0) c.check_upgradable.result c.check_upgradable.ensures.cause) (if_told h0 _ (λ _ _. may)))))

pub returns-in_err-picked-clause-leaves : goal.returns-in_err-picked-clause-leaves
returns-in_err-picked-clause-leaves g c =
    let h0 = g.S.Shelf.held c.args.shelf.now in
    let input = c.args.input.now in
    let rec = c.args.rec.now in
    let found = c.in_ok-layout.field-0 in
    let toc = toc_of found.layout in
    let name = record_name_of rec toc in
    let before = c.compare.ensures.only.same in
    let read : c.is_read-is_read.result ≡ list_any (bytes_eq (part_of name)) (names_of found) = search rules in
    let named : c.as_str-4.result.now ≡ name = search rules in
    let may : Does (λ _. tt) c.check_upgradable.result (upgradable name found.seal (names_of found)) = rw named at (c.check_upgradable.ensures.answer (names_of found) (search rules)) in
    let unsealed : found.seal ≡ None = c.in_ok-check_upgradable.ensures.unsealed in
    let picks : IfSome h0 (λ files. Meets (λ (picked : Picked). picked.at) c.mend_of.result (Picks None (known_of files found))) =
    subst (λ (s : Option (List ℕ)). IfSome h0 (λ files. Meets (λ (picked : Picked). picked.at) c.mend_of.result (Picks None (unsealed_of found files s)))) (sym unsealed) (rw before at c.mend_of.ensures.picks) in
    let p = err_from_is_err_and c.from_residual-in_err-picked.result c.from_residual-in_err-picked.ensures.1 in
    upgrade_left input rec h0 _ c.from_residual-in_err-picked.result
    (went_on both_of (compared input rec) (λ files. ComparedTo input rec files) h0 _ c.compare.result found c.from_residual-in_err-picked.result (search rules) c.compare.ensures.answer
    (upgrade_of_left input rec toc (λ files. both_of files found) h0 _ c.from_residual-in_err-picked.result c.in_ok-layout.ensures.opens
    (went_on (λ _ _. tt) (λ files. upgradable name found.seal (names_of found)) (λ files _. picked_outcome name toc (λ files. known_of files found) files) h0 _ c.check_upgradable.result c.in_ok-check_upgradable.field-0 c.from_residual-in_err-picked.result
    (search rules) (if_told h0 _ (λ _ _. may))
    (stopped_of (λ _ (picked : Picked). picked.at) (λ files. Picks None (known_of files found)) (λ files at. IsSealedOutcome name toc (known_of files found) at) _ _ h0 _ c.mend_of.result p.0 c.from_residual-in_err-picked.result
    (search rules) p.1 (c.mend_of.ensures.only.same ∙ before) c.mend_of.ensures.cause picks))))

pub returns-clause-leaves : goal.returns-clause-leaves
returns-clause-leaves g c =
    let h0 = g.S.Shelf.held c.args.shelf.now in
    let input = c.args.input.now in
    let rec = c.args.rec.now in
    let found = c.in_ok-layout.field-0 in
    let toc = toc_of found.layout in
    let name = record_name_of rec toc in
    let before = c.compare.ensures.only.same in
    let read : c.is_read-is_read.result ≡ list_any (bytes_eq (part_of name)) (names_of found) = search rules in
    let named : c.as_str-4.result.now ≡ name = search rules in
    let may : Does (λ _. tt) c.check_upgradable.result (upgradable name found.seal (names_of found)) = rw named at (c.check_upgradable.ensures.answer (names_of found) (search rules)) in
    let unsealed : found.seal ≡ None = c.in_ok-check_upgradable.ensures.unsealed in
    let picks : IfSome h0 (λ files. Meets (λ (picked : Picked). picked.at) c.mend_of.result (Picks None (known_of files found))) =
    subst (λ (s : Option (List ℕ)). IfSome h0 (λ files. Meets (λ (picked : Picked). picked.at) c.mend_of.result (Picks None (unsealed_of found files s)))) (sym unsealed) (rw before at c.mend_of.ensures.picks) in
    let at = c.in_ok-picked.picked.at in
    let kept : c.as_str-7.result.now ≡ name = search rules in
    let sealed : IfSome h0 (λ files. Leaves (IsSealedOutcome name toc (known_of files found) at) files c.seal_record.result (g.S.Shelf.held c.seal_record.new.shelf)) =
    subst (λ (s : Option (List ℕ)). IfSome h0 (λ files. Leaves (IsSealedOutcome name toc (unsealed_of found files s) at) files c.seal_record.result (g.S.Shelf.held c.seal_record.new.shelf))) (sym unsealed)
    (rw (c.mend_of.ensures.only.same ∙ before, kept, c.in_ok-kept.ensures.count, c.in_ok-kept.ensures.rows) at c.seal_record.ensures.leaves) in
    upgrade_left input rec h0 _ c.seal_record.result
    (went_on both_of (compared input rec) (λ files. ComparedTo input rec files) h0 _ c.compare.result found c.seal_record.result (search rules) c.compare.ensures.answer
    (upgrade_of_left input rec toc (λ files. both_of files found) h0 _ c.seal_record.result c.in_ok-layout.ensures.opens
    (went_on (λ _ _. tt) (λ files. upgradable name found.seal (names_of found)) (λ files _. picked_outcome name toc (λ files. known_of files found) files) h0 _ c.check_upgradable.result c.in_ok-check_upgradable.field-0 c.seal_record.result
    (search rules) (if_told h0 _ (λ _ _. may))
    (went_on_of (λ _ (picked : Picked). picked.at) (λ files. Picks None (known_of files found)) (λ files at. IsSealedOutcome name toc (known_of files found) at) h0 _ c.mend_of.result c.in_ok-picked.picked c.seal_record.result
    (search rules) picks sealed))))

pub returns-in_err-picked-clause-crashes : goal.returns-in_err-picked-clause-crashes
returns-in_err-picked-clause-crashes g c =
    safe_rests _ _ _ _ (told_rests_twice _ _ _ c.compare.ensures.only.crashes c.mend_of.ensures.only.crashes)

pub returns-clause-crashes : goal.returns-clause-crashes
returns-clause-crashes g c =
    let h0 = g.S.Shelf.held c.args.shelf.now in
    let input = c.args.input.now in
    let rec = c.args.rec.now in
    let found = c.in_ok-layout.field-0 in
    let toc = toc_of found.layout in
    let name = record_name_of rec toc in
    let before = c.compare.ensures.only.same in
    let read : c.is_read-is_read.result ≡ list_any (bytes_eq (part_of name)) (names_of found) = search rules in
    let named : c.as_str-4.result.now ≡ name = search rules in
    let may : Does (λ _. tt) c.check_upgradable.result (upgradable name found.seal (names_of found)) = rw named at (c.check_upgradable.ensures.answer (names_of found) (search rules)) in
    let unsealed : found.seal ≡ None = c.in_ok-check_upgradable.ensures.unsealed in
    let picks : IfSome h0 (λ files. Meets (λ (picked : Picked). picked.at) c.mend_of.result (Picks None (known_of files found))) =
    subst (λ (s : Option (List ℕ)). IfSome h0 (λ files. Meets (λ (picked : Picked). picked.at) c.mend_of.result (Picks None (unsealed_of found files s)))) (sym unsealed) (rw before at c.mend_of.ensures.picks) in
    let tells = g.met.S.Shelf.tells_held in
    let at = c.in_ok-picked.picked.at in
    let kept : c.as_str-7.result.now ≡ name = search rules in
    let same = c.mend_of.ensures.only.same ∙ before in
    let picked : IfSome h0 (λ files. Picks None (known_of files found) (Ok at)) = let is : c.mend_of.result ≡ Ok c.in_ok-picked.picked = search rules in rw is at picks in
    safe_after (IsUpgradeOutcome input rec) _ _ _ _ (told_rests_twice _ _ _ c.compare.ensures.only.crashes c.mend_of.ensures.only.crashes)
    (safe_weaker (λ files. IsSealedOutcome name toc (unsealed_of found files None) at) (IsUpgradeOutcome input rec) _ _ _ _ _ (tells c.mend_of.new.shelf) (tells c.seal_record.new.shelf)
    (λ files told o is.
    let told0 : h0 ≡ Some files = sym same ∙ told in
    let compares : compared input rec files ≡ Ok (both_of files found) = found_told h0 both_of (compared input rec) c.compare.result found (search rules) c.compare.ensures.answer files told0 in
    let done : upgradable name found.seal (names_of found) ≡ Ok tt = found_told h0 (λ _ _. tt) (λ _. upgradable name found.seal (names_of found)) c.check_upgradable.result c.in_ok-check_upgradable.field-0 (search rules) (if_told h0 _ (λ _ _. may)) files told0 in
    let own : IsSealedOutcome name toc (known_of files found) at o = subst (λ (s : Option (List ℕ)). IsSealedOutcome name toc (unsealed_of found files s) at o) (sym unsealed) is in
    upgrade_done input rec files (both_of files found) toc at o compares (when_told h0 _ c.in_ok-layout.ensures.opens files told0) done (when_told h0 _ picked files told0) own)
    (rw (kept, c.in_ok-kept.ensures.count, c.in_ok-kept.ensures.rows) at c.seal_record.ensures.crashes))

pub returns-in_err-picked-clause-taken : goal.returns-in_err-picked-clause-taken
returns-in_err-picked-clause-taken g c =
    let h0 = g.S.Shelf.held c.args.shelf.now in
    let input = c.args.input.now in
    let rec = c.args.rec.now in
    let found = c.in_ok-layout.field-0 in
    let before = c.compare.ensures.only.same in
    let unsealed : found.seal ≡ None = c.in_ok-check_upgradable.ensures.unsealed in
    let took : IfSome (g.S.Shelf.held c.compare.new.shelf) (λ files. TakesSealing None (known_of files found) 1 (2 * word_count found.image) c.mend_of.result (g.S.Shelf.taken c.compare.new.shelf) (g.S.Shelf.taken c.mend_of.new.shelf)) =
    subst (λ (s : Option (List ℕ)). IfSome (g.S.Shelf.held c.compare.new.shelf) (λ files. TakesSealing None (unsealed_of found files s) 1 (2 * word_count found.image) c.mend_of.result (g.S.Shelf.taken c.compare.new.shelf) (g.S.Shelf.taken c.mend_of.new.shelf))) (sym unsealed) c.mend_of.ensures.taken in
    let so_far = compared_sealing h0 _ input rec found None _ _ _ c.compare.result c.mend_of.result (search rules) before c.compare.ensures.answer c.compare.ensures.taken c.in_ok-layout.ensures.count took in
    let twice = upgrade_so_far h0 input rec found _ _ c.compare.result c.mend_of.result (search rules) unsealed c.compare.ensures.answer so_far in
    let p = err_from_is_err_and c.from_residual-in_err-picked.result c.from_residual-in_err-picked.ensures.1 in
    if_told h0 _ (λ files told. upgrade_stopped (compared_bytes input rec files) _ _ c.mend_of.result p.0 c.from_residual-in_err-picked.result (search rules) p.1 (twice files told))

pub returns-clause-taken : goal.returns-clause-taken
returns-clause-taken g c =
    let h0 = g.S.Shelf.held c.args.shelf.now in
    let input = c.args.input.now in
    let rec = c.args.rec.now in
    let found = c.in_ok-layout.field-0 in
    let before = c.compare.ensures.only.same in
    let unsealed : found.seal ≡ None = c.in_ok-check_upgradable.ensures.unsealed in
    let took : IfSome (g.S.Shelf.held c.compare.new.shelf) (λ files. TakesSealing None (known_of files found) 1 (2 * word_count found.image) c.mend_of.result (g.S.Shelf.taken c.compare.new.shelf) (g.S.Shelf.taken c.mend_of.new.shelf)) =
    subst (λ (s : Option (List ℕ)). IfSome (g.S.Shelf.held c.compare.new.shelf) (λ files. TakesSealing None (unsealed_of found files s) 1 (2 * word_count found.image) c.mend_of.result (g.S.Shelf.taken c.compare.new.shelf) (g.S.Shelf.taken c.mend_of.new.shelf))) (sym unsealed) c.mend_of.ensures.taken in
    let so_far = compared_sealing h0 _ input rec found None _ _ _ c.compare.result c.mend_of.result (search rules) before c.compare.ensures.answer c.compare.ensures.taken c.in_ok-layout.ensures.count took in
    let twice = upgrade_so_far h0 input rec found _ _ c.compare.result c.mend_of.result (search rules) unsealed c.compare.ensures.answer so_far in
    let room = compared_image h0 input rec found c.compare.result (search rules) c.compare.ensures.answer c.in_ok-layout.ensures.count in
    if_told h0 _ (λ files told. upgrade_more (compared_bytes input rec files) (2 * word_count found.image) _ _ _ c.mend_of.result c.in_ok-picked.picked c.seal_record.result (search rules) (room files told) (twice files told) c.seal_record.ensures.taken)

pub seal_record-requires-clause-held : goal.seal_record-requires-clause-held
seal_record-requires-clause-held g c =
    let h0 = g.S.Shelf.held c.args.shelf.now in
    let input = c.args.input.now in
    let rec = c.args.rec.now in
    let found = c.in_ok-layout.field-0 in
    let toc = toc_of found.layout in
    let name = record_name_of rec toc in
    let before = c.compare.ensures.only.same in
    let kept : c.as_str-7.result.now ≡ name = search rules in
    rw kept (λ files told.
    let told0 : h0 ≡ Some files = sym (c.mend_of.ensures.only.same ∙ before) ∙ told in
    record_held input rec files (both_of files found) toc (found_told h0 both_of (compared input rec) c.compare.result found (search rules) c.compare.ensures.answer files told0) (when_told h0 _ c.in_ok-layout.ensures.opens files told0))
