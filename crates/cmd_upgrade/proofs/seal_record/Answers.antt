use Rattle.std.proofs.Common.{◌≡◌, ◌∙◌, [], ◌∷◌, None, Some, rules, sym, of_z, to_z, w32}
use Rattle.std.specs.Prelude.{IfSome}
use Rattle.rip_outside.proofs.FilesLaws.{if_told, when_told}
use Rattle.column_map.specs.Columns.{WordTable, per_column}
use Rattle.column_map.specs.Mending.{AreFixes}
use Rattle.disc_toc.specs.Toc.{toc_of}
use Rattle.image_mender.specs.Joined.{joined_words}
use Rattle.image_mender.specs.Seal.{seal_of_table}
use Rattle.parity_store.specs.Record.{parity_count, parity_rows, record_bytes_of}
use Rattle.rip_report.specs.Texts.{upgraded_text}
use Rattle.engine_steps.specs.Outcome.{output, written}
use Rattle.engine_steps.specs.Steps.{known_from}
use Rattle.engine_steps.proofs.CrashingLaws.{safe_after, safe_none, safe_rests, safe_weaker}
use Rattle.engine_steps.proofs.Leaving.{leaves_weaker}
use Rattle.engine_search.proofs.PickLaws.{offset_kept}
use Rattle.cmd_upgrade.specs.UpgradeOutcome.{IsSealedOutcome}
use Rattle.cmd_upgrade.proofs.UpgradeLaws.{sealed_outcome}
use Rattle.cmd_upgrade.proofs.seal_record.Goals as goal

pub returns-clause-leaves : goal.returns-clause-leaves
returns-clause-leaves g c =
    let h0 = g.S.Shelf.held c.args.shelf.now in
    let name = c.args.name.now in
    let toc = toc_of c.args.layout in
    let at = c.args.picked.now.at in
    let fixes = c.args.picked.now.fixes.items in
    let seal = c.in_ok-seal_at.field-0 in
    let clean : at.errors ≡ 0 = search rules in
    let kept : to_z w32 (of_z w32 at.offset) ≡ at.offset = offset_kept at.offset c.requires.lie.offset in
    let sealing : IfSome h0 (λ files. (table : WordTable) → AreFixes (per_column c.args.shape) (joined_words c.args.image.now files) at.offset table fixes → seal ≡ seal_of_table (per_column c.args.shape) table) = rw (c.deref.ensures.value, kept) at c.in_ok-seal_at.ensures.seal in
    let text : c.in_ok-text.text ≡ upgraded_text at name = search rules in
    let stored : c.deref-2.result.now ≡ record_bytes_of toc (parity_count c.args.parity) (parity_rows c.args.parity) (Some seal) = search rules in
    if_told h0 _ (λ files told.
    let words = joined_words c.args.image.now files in
    let known = known_from c.args.shape words (parity_count c.args.parity) (parity_rows c.args.parity) None in
    let sealed : (table : WordTable) → AreFixes (per_column c.args.shape) words at.offset table fixes → seal ≡ seal_of_table (per_column c.args.shape) table = when_told h0 _ sealing files told in
    leaves_weaker (λ o. o ≡ written c.in_ok-text.text (output name c.deref-2.result.now ∷ [])) (IsSealedOutcome name toc known at) files c.replace_out.result _
    (λ o is. sealed_outcome name toc known at fixes (when_told h0 _ c.requires.mends files told) seal c.deref-2.result.now c.in_ok-text.text o clean sealed text stored is)
    (when_told _ _ c.replace_out.ensures.leaves files (c.seal_at.ensures.only.same ∙ told)))

pub returns-clause-crashes : goal.returns-clause-crashes
returns-clause-crashes g c =
    let h0 = g.S.Shelf.held c.args.shelf.now in
    let tells = g.met.S.Shelf.tells_held in
    let name = c.args.name.now in
    let toc = toc_of c.args.layout in
    let at = c.args.picked.now.at in
    let fixes = c.args.picked.now.fixes.items in
    let seal = c.in_ok-seal_at.field-0 in
    let clean : at.errors ≡ 0 = search rules in
    let kept : to_z w32 (of_z w32 at.offset) ≡ at.offset = offset_kept at.offset c.requires.lie.offset in
    let sealing : IfSome h0 (λ files. (table : WordTable) → AreFixes (per_column c.args.shape) (joined_words c.args.image.now files) at.offset table fixes → seal ≡ seal_of_table (per_column c.args.shape) table) = rw (c.deref.ensures.value, kept) at c.in_ok-seal_at.ensures.seal in
    let text : c.in_ok-text.text ≡ upgraded_text at name = search rules in
    let stored : c.deref-2.result.now ≡ record_bytes_of toc (parity_count c.args.parity) (parity_rows c.args.parity) (Some seal) = search rules in
    safe_after _ _ _ _ _ c.seal_at.ensures.only.crashes
    (safe_weaker (λ _ o. o ≡ written c.in_ok-text.text (output name c.deref-2.result.now ∷ []))
    (λ files. IsSealedOutcome name toc (known_from c.args.shape (joined_words c.args.image.now files) (parity_count c.args.parity) (parity_rows c.args.parity) None) at)
    _ _ _ _ _ (tells c.seal_at.new.shelf) (tells c.replace_out.new.shelf)
    (λ files told o is.
    let told0 : h0 ≡ Some files = sym c.seal_at.ensures.only.same ∙ told in
    let words = joined_words c.args.image.now files in
    let known = known_from c.args.shape words (parity_count c.args.parity) (parity_rows c.args.parity) None in
    let sealed : (table : WordTable) → AreFixes (per_column c.args.shape) words at.offset table fixes → seal ≡ seal_of_table (per_column c.args.shape) table = when_told h0 _ sealing files told0 in
    sealed_outcome name toc known at fixes (when_told h0 _ c.requires.mends files told0) seal c.deref-2.result.now c.in_ok-text.text o clean sealed text stored is) c.replace_out.ensures.crashes)

pub returns-then-at-ne0-clause-crashes : goal.returns-then-at-ne0-clause-crashes
returns-then-at-ne0-clause-crashes g c = safe_none _ _ _

pub returns-in_err-words-clause-crashes : goal.returns-in_err-words-clause-crashes
returns-in_err-words-clause-crashes g c = safe_none _ _ _

pub returns-in_err-bytes-clause-crashes : goal.returns-in_err-bytes-clause-crashes
returns-in_err-bytes-clause-crashes g c = safe_none _ _ _

pub returns-in_err-seal_at-clause-crashes : goal.returns-in_err-seal_at-clause-crashes
returns-in_err-seal_at-clause-crashes g c = safe_rests _ _ _ _ c.seal_at.ensures.only.crashes

pub returns-in_err-stored-clause-crashes : goal.returns-in_err-stored-clause-crashes
returns-in_err-stored-clause-crashes g c = safe_rests _ _ _ _ c.seal_at.ensures.only.crashes

pub returns-in_err-copied-clause-crashes : goal.returns-in_err-copied-clause-crashes
returns-in_err-copied-clause-crashes g c = safe_rests _ _ _ _ c.seal_at.ensures.only.crashes

pub returns-in_err-text-clause-crashes : goal.returns-in_err-text-clause-crashes
returns-in_err-text-clause-crashes g c = safe_rests _ _ _ _ c.seal_at.ensures.only.crashes
