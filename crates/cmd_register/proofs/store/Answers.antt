use Rattle.std.proofs.Common.{◌≡◌, ◌∙◌, rules, [], ◌∷◌, Some, ap₂, sym}
use Rattle.std.specs.Prelude.{IfSome}
use Rattle.rip_outside.proofs.FilesLaws.{when_told}
use Rattle.disc_toc.specs.Toc.{toc_of}
use Rattle.image_mender.specs.Joined.{joined_words}
use Rattle.parity_store.specs.Record.{parity_count, record_bytes_of, parity_rows}
use Rattle.column_map.specs.Npar.{parity_words}
use Rattle.rip_report.specs.Texts.{registered_line}
use Rattle.engine_words.specs.Records.{record_of}
use Rattle.engine_steps.proofs.Leaving.{stored}
use Rattle.engine_steps.specs.Outcome.{output, written}
use Rattle.engine_steps.proofs.CrashingLaws.{safe_after, safe_weaker}
use Rattle.cmd_register.proofs.RegisterLaws.{record_made}
use Rattle.cmd_register.proofs.store.Goals as goal

pub returns-clause-leaves : goal.returns-clause-leaves
returns-clause-leaves g c =
    let h0 = g.S.Shelf.held c.args.shelf.now in
    let toc = toc_of c.args.layout in
    let parity = c.in_ok-parity.parity in
    let count = parity_words c.args.npar in
    let image = c.args.image.now in
    let text : c.in_ok-text.text ≡ registered_line c.args.name.now c.args.layout.sectors count = search rules in
    let made_of : c.deref.result.now ≡ record_bytes_of toc (parity_count parity) (parity_rows parity) (Some c.in_ok-parity.seal) = search rules in
    let made : IfSome h0 (λ files. c.deref.result.now ≡ record_of count toc (joined_words image files)) =
    record_made h0 image toc count (parity_count parity) c.args.shape (parity_rows parity) c.in_ok-parity.seal c.deref.result.now c.in_ok-parity.ensures.size c.requires.shape made_of c.in_ok-parity.ensures.parity c.in_ok-parity.ensures.seal in
    stored c.args.name.now (registered_line c.args.name.now c.args.layout.sectors count) c.in_ok-text.text c.deref.result.now (λ files. record_of count toc (joined_words image files)) c.write_out.result
    h0 _ _ c.parity_and_seal.ensures.only.same text made c.write_out.ensures.leaves

pub returns-clause-crashes : goal.returns-clause-crashes
returns-clause-crashes g c =
    let h0 = g.S.Shelf.held c.args.shelf.now in
    let toc = toc_of c.args.layout in
    let parity = c.in_ok-parity.parity in
    let count = parity_words c.args.npar in
    let image = c.args.image.now in
    let text : c.in_ok-text.text ≡ registered_line c.args.name.now c.args.layout.sectors count = search rules in
    let made_of : c.deref.result.now ≡ record_bytes_of toc (parity_count parity) (parity_rows parity) (Some c.in_ok-parity.seal) = search rules in
    let made : IfSome h0 (λ files. c.deref.result.now ≡ record_of count toc (joined_words image files)) =
    record_made h0 image toc count (parity_count parity) c.args.shape (parity_rows parity) c.in_ok-parity.seal c.deref.result.now c.in_ok-parity.ensures.size c.requires.shape made_of c.in_ok-parity.ensures.parity c.in_ok-parity.ensures.seal in
    let tells = g.met.S.Shelf.tells_held in
    safe_after _ _ _ _ _ c.parity_and_seal.ensures.only.crashes
    (safe_weaker (λ _ o. o ≡ written c.in_ok-text.text (output c.args.name.now c.deref.result.now ∷ [])) _ _ _ _ _ _ (tells c.parity_and_seal.new.shelf) (tells c.write_out.new.shelf)
    (λ files told o is. is ∙ ap₂ (λ t b. written t (output c.args.name.now b ∷ [])) text (when_told h0 _ made files (sym c.parity_and_seal.ensures.only.same ∙ told))) c.write_out.ensures.crashes)
