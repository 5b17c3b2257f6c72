use Rattle.std.proofs.Common.{◌≡◌, ◌≢◌, ◌∙◌, ◌+◌, List, ℕ, length, map, sym, ap, ap₂, subst, rules}
use Rattle.std.specs.Prelude.{All, AllPairs, Contains}
use Rattle.rip_outside.proofs.FilesLaws.{if_told, when_told}
use Rattle.disc_toc.specs.Toc.{toc_of}
use Rattle.image_mender.specs.declared.image.Part.{Part}
use Rattle.image_mender.specs.Joined.{joined_words}
use Rattle.track_split.specs.Sheets.{split_text}
use Rattle.track_split.specs.Tracks.{files_named, split_names, split_outputs}
use Rattle.rip_report.specs.Texts.{split_line}
use Rattle.engine_steps.specs.Outcome.{Leaves, Outcome, written}
use Rattle.engine_steps.proofs.CrashingLaws.{safe_weaker}
use Rattle.engine_steps.proofs.Leaving.{leaves_weaker}
use Rattle.engine_outputs.specs.Writing.{image_outputs}
use Rattle.track_split.proofs.NameLaws.{split_distinct, split_many}
use Rattle.cmd_split.proofs.SplitLaws.{apart_pieces, names_of_parts, own_names}
use Rattle.cmd_split.proofs.write_split.Goals as goal

pub write_files-requires-clause-names : goal.write_files-requires-clause-names
write_files-requires-clause-names g c =
    let tracks = length c.args.layout.now.starts in
    let many : length c.as_slice-images.result.now ≡ tracks = ap length c.as_slice-images.ensures ∙ c.in_ok-pieces.ensures.each in
    ap length c.requires.outs ∙ split_many c.args.folder.now tracks ∙ ap (λ n. n + 1) (sym many)

pub write_files-requires-clause-distinct : goal.write_files-requires-clause-distinct
write_files-requires-clause-distinct g c =
    let tracks = length c.args.layout.now.starts in
    subst (λ (names : List (List ℕ)). AllPairs (λ earlier later. later ≢ earlier) names) (sym c.requires.outs) (split_distinct c.args.folder.now tracks c.args.layout.now.valid.few)

pub write_files-requires-clause-apart : goal.write_files-requires-clause-apart
write_files-requires-clause-apart g c =
    let image = c.args.image.now in
    let apart = apart_pieces image c.args.parts.now c.in_ok-pieces.pieces c.requires.apart (c.in_ok-pieces.ensures.named (names_of_parts image) (own_names image)) in
    subst (λ (pieces : List (List Part)). All (λ (piece : List Part). All (λ (p : Part). Contains c.args.parts.now p.name → ⊥) piece) pieces) (sym c.as_slice-images.ensures) apart

pub returns-clause-leaves : goal.returns-clause-leaves
returns-clause-leaves g c =
    let h0 = g.S.Shelf.held c.args.shelf.now in
    let toc = toc_of c.args.layout.now in
    let image = c.args.image.now in
    let folder = c.args.folder.now in
    let outs = c.args.outs.now in
    let tracks = length c.args.layout.now.starts in
    let images = c.as_slice-images.result.now in
    let sheet = c.deref.result.now in
    let line = split_line folder tracks in
    let text : c.in_ok-text.text ≡ line = search rules in
    let sheet_is : sheet ≡ split_text toc = search rules in
    if_told h0 _ (λ files told.
    let inside = c.requires.inside files told in
    let words = ap (map (λ parts. joined_words parts files)) c.as_slice-images.ensures ∙ c.in_ok-pieces.ensures.words files inside in
    let outputs : image_outputs outs images sheet files ≡ split_outputs folder toc (joined_words image files) =
    ap₂ (λ o w. files_named o w sheet) c.requires.outs words ∙ ap (files_named (split_names folder tracks) _) sheet_is in
    let same : (o : Outcome) → o ≡ written c.in_ok-text.text (image_outputs outs images sheet files) → o ≡ written line (split_outputs folder toc (joined_words image files)) =
    λ o is. is ∙ ap₂ written text outputs in
    leaves_weaker (λ o. o ≡ written c.in_ok-text.text (image_outputs outs images sheet files)) (λ o. o ≡ written line (split_outputs folder toc (joined_words image files))) files c.write_files.result _ same
    (when_told h0 (λ files. Leaves (λ o. o ≡ written c.in_ok-text.text (image_outputs outs images sheet files)) files c.write_files.result (g.S.Shelf.held c.write_files.new.shelf)) c.write_files.ensures.leaves files told))

pub returns-clause-crashes : goal.returns-clause-crashes
returns-clause-crashes g c =
    let tells = g.met.S.Shelf.tells_held in
    let toc = toc_of c.args.layout.now in
    let image = c.args.image.now in
    let folder = c.args.folder.now in
    let outs = c.args.outs.now in
    let tracks = length c.args.layout.now.starts in
    let images = c.as_slice-images.result.now in
    let sheet = c.deref.result.now in
    let line = split_line folder tracks in
    let text : c.in_ok-text.text ≡ line = search rules in
    let sheet_is : sheet ≡ split_text toc = search rules in
    safe_weaker (λ files o. o ≡ written c.in_ok-text.text (image_outputs outs images sheet files)) (λ files o. o ≡ written line (split_outputs folder toc (joined_words image files))) _ _ _ _ _
    (tells c.args.shelf.now) (tells c.write_files.new.shelf)
    (λ files told o is.
    let inside = c.requires.inside files told in
    let words = ap (map (λ parts. joined_words parts files)) c.as_slice-images.ensures ∙ c.in_ok-pieces.ensures.words files inside in
    let outputs : image_outputs outs images sheet files ≡ split_outputs folder toc (joined_words image files) =
    ap₂ (λ o w. files_named o w sheet) c.requires.outs words ∙ ap (files_named (split_names folder tracks) _) sheet_is in
    is ∙ ap₂ written text outputs) c.write_files.ensures.crashes
