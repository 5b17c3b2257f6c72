use Rattle.std.proofs.Common.{◌≡◌, ◌≢◌, ◌∙◌, List, ℕ, [], ◌∷◌, length, sym, ap, ap₂, subst, rules}
use Rattle.std.specs.Prelude.{All, AllPairs, Contains}
use Rattle.std.proofs.lemmas.List.Elements.{All-cons, All-nil}
use Rattle.rip_outside.proofs.FilesLaws.{if_told, when_told}
use Rattle.disc_toc.specs.Toc.{toc_of}
use Rattle.image_mender.specs.declared.image.Part.{Part}
use Rattle.image_mender.specs.Joined.{AreInFiles, joined_words}
use Rattle.track_split.specs.Sheets.{join_text}
use Rattle.track_split.specs.Tracks.{files_named, join_names, join_outputs}
use Rattle.rip_report.specs.Texts.{joined_line}
use Rattle.engine_steps.specs.Outcome.{Leaves, Outcome, written}
use Rattle.engine_steps.proofs.CrashingLaws.{safe_weaker}
use Rattle.engine_steps.proofs.Leaving.{leaves_weaker}
use Rattle.engine_outputs.specs.Writing.{image_outputs}
use Rattle.rip_words.specs.FileNames.{name_in_folder}
use Rattle.track_split.proofs.NameLaws.{join_distinct}
use Rattle.cmd_join.proofs.write_join.Goals as goal

pub write_files-requires-clause-names : goal.write_files-requires-clause-names
write_files-requires-clause-names g c = ap length c.requires.outs

pub write_files-requires-clause-distinct : goal.write_files-requires-clause-distinct
write_files-requires-clause-distinct g c =
    subst (λ (names : List (List ℕ)). AllPairs (λ earlier later. later ≢ earlier) names) (sym c.requires.outs) (join_distinct c.args.to.now)

pub write_files-requires-clause-inside : goal.write_files-requires-clause-inside
write_files-requires-clause-inside g c = λ files told.
    All-cons (λ (image : List Part). AreInFiles image files) c.args.image [] (c.requires.inside files told) (All-nil (λ (image : List Part). AreInFiles image files))

pub write_files-requires-clause-apart : goal.write_files-requires-clause-apart
write_files-requires-clause-apart g c =
    All-cons (λ (image : List Part). All (λ (p : Part). Contains c.args.parts.now p.name → ⊥) image) c.args.image [] c.requires.apart (All-nil (λ (image : List Part). All (λ (p : Part). Contains c.args.parts.now p.name → ⊥) image))

pub returns-clause-leaves : goal.returns-clause-leaves
returns-clause-leaves g c =
    let h0 = g.S.Shelf.held c.args.shelf.now in
    let toc = toc_of c.args.layout.now in
    let image = c.args.image in
    let to = c.args.to.now in
    let outs = c.args.outs.now in
    let images : List (List Part) = image ∷ [] in
    let sheet = c.deref.result.now in
    let line = joined_line to c.args.layout.now.sectors in
    let text : c.in_ok-text.text ≡ line = search rules in
    let sheet_is : sheet ≡ join_text (name_in_folder to) toc = search rules in
    if_told h0 _ (λ files told.
    let outputs : image_outputs outs images sheet files ≡ join_outputs to (name_in_folder to) toc (joined_words image files) =
    ap (λ o. files_named o (joined_words image files ∷ []) sheet) c.requires.outs ∙ ap (files_named (join_names to) (joined_words image files ∷ [])) sheet_is in
    let same : (o : Outcome) → o ≡ written c.in_ok-text.text (image_outputs outs images sheet files) → o ≡ written line (join_outputs to (name_in_folder to) toc (joined_words image files)) =
    λ o is. is ∙ ap₂ written text outputs in
    leaves_weaker (λ o. o ≡ written c.in_ok-text.text (image_outputs outs images sheet files)) (λ o. o ≡ written line (join_outputs to (name_in_folder to) toc (joined_words image files))) files c.write_files.result _ same
    (when_told h0 (λ files. Leaves (λ o. o ≡ written c.in_ok-text.text (image_outputs outs images sheet files)) files c.write_files.result (g.S.Shelf.held c.write_files.new.shelf)) c.write_files.ensures.leaves files told))

pub returns-clause-crashes : goal.returns-clause-crashes
returns-clause-crashes g c =
    let tells = g.met.S.Shelf.tells_held in
    let toc = toc_of c.args.layout.now in
    let image = c.args.image in
    let to = c.args.to.now in
    let outs = c.args.outs.now in
    let images : List (List Part) = image ∷ [] in
    let sheet = c.deref.result.now in
    let line = joined_line to c.args.layout.now.sectors in
    let text : c.in_ok-text.text ≡ line = search rules in
    let sheet_is : sheet ≡ join_text (name_in_folder to) toc = search rules in
    safe_weaker (λ files o. o ≡ written c.in_ok-text.text (image_outputs outs images sheet files)) (λ files o. o ≡ written line (join_outputs to (name_in_folder to) toc (joined_words image files))) _ _ _ _ _
    (tells c.args.shelf.now) (tells c.write_files.new.shelf)
    (λ files told o is.
    let outputs : image_outputs outs images sheet files ≡ join_outputs to (name_in_folder to) toc (joined_words image files) =
    ap (λ o. files_named o (joined_words image files ∷ []) sheet) c.requires.outs ∙ ap (files_named (join_names to) (joined_words image files ∷ [])) sheet_is in
    is ∙ ap₂ written text outputs) c.write_files.ensures.crashes
