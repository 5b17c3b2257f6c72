use Rattle.std.proofs.Common.{◌≡◌, ◌∙◌, ◌+◌, ◌*◌, ◌<◌, ◌≤◌, List, ℕ, length, take, get_or, None, Some, sym, ap, rules, arith}
use Rattle.std.specs.Prelude.{All, Err, IfErr, IsOk, sum_by}
use Rattle.std.specs.FinMap.{get}
use Rattle.std.proofs.lemmas.Result.{err_from_is_err_and}
use Rattle.std.proofs.lemmas.List.{get_or_read, length-map}
use Rattle.rip_outside.specs.Files.{Files}
use Rattle.rip_outside.specs.Outputs.{after_outputs, part_of}
use Rattle.rip_outside.proofs.FilesLaws.{told_after}
use Rattle.wav_frames.specs.Wav.{wav_bytes}
use Rattle.image_mender.specs.declared.image.Part.{Part}
use Rattle.image_mender.specs.Joined.{AreInFiles, joined_words, word_count}
use Rattle.engine_steps.proofs.TakingLaws.{stopped_takes, takes_after}
use Rattle.engine_outputs.specs.Writing.{RefusesNothing, image_outputs}
use Rattle.engine_outputs.proofs.EachLaws.{apart_at, image_follow, image_fits, image_free, image_more, image_next, inside_at, outputs_many, part_at, sheet_fits, sheet_free}
use Rattle.engine_steps.specs.Steps.{ComesToEnd}
use Rattle.engine_outputs.proofs.OneMoreLaws.{all_left, all_put, held_next, left_stopped, put_next, put_stopped, refusing_none}
use Rattle.engine_outputs.proofs.writing.write_files.Goals as goal

pub write_image-requires-clause-free : goal.write_image-requires-clause-free
write_image-requires-clause-free g c =
    let h0 = g.S.Shelf.held c.args.shelf.now in
    let outs = c.args.outs.now in
    let images = c.args.images.now in
    let sheet = c.args.sheet.now in
    let i = c.loop-i.i in
    let image = c.index-images-i.result in
    let to = c.as_str-to.result.now in
    let named : to ≡ get_or outs i to = c.as_str-to.ensures ∙ get_or_read outs i c.index-outs-i.result (omega (arith, c.loop-i-test.true, c.loop-i.auto.i-end, c.requires.names)) c.index-outs-i.is to in
    told_after (λ files. after_outputs (take i (image_outputs outs images sheet files)) files) h0 (g.S.Shelf.held c.loop-i.shelf) (λ files. All (λ out. get files out ≡ None) outs) (λ files. get files to ≡ None)
    c.loop-i.invariant.held c.requires.free
    (λ files free. image_free outs images sheet c.requires.names c.requires.distinct i files image to (omega (arith, c.loop-i-test.true, c.loop-i.auto.i-end)) c.index-images-i.is named free)

pub write_image-requires-clause-inside : goal.write_image-requires-clause-inside
write_image-requires-clause-inside g c =
    let h0 = g.S.Shelf.held c.args.shelf.now in
    let outs = c.args.outs.now in
    let images = c.args.images.now in
    let sheet = c.args.sheet.now in
    let i = c.loop-i.i in
    let image = c.index-images-i.result in
    let below : i < length images = omega (arith, c.loop-i-test.true, c.loop-i.auto.i-end) in
    told_after (λ files. after_outputs (take i (image_outputs outs images sheet files)) files) h0 (g.S.Shelf.held c.loop-i.shelf)
    (λ files. All (λ out. get files out ≡ None) outs × All (λ image. AreInFiles image files) images) (λ files. AreInFiles image files) c.loop-i.invariant.held
    (λ files told. (c.requires.free files told, c.requires.inside files told))
    (λ files both. (image_follow outs images sheet c.requires.names c.requires.distinct c.args.parts.now i files image c.requires.parts (apart_at c.args.parts.now images i image below c.index-images-i.is c.requires.apart) both.0 (inside_at images i image files below c.index-images-i.is both.1)).1)

pub write_image-requires-clause-apart : goal.write_image-requires-clause-apart
write_image-requires-clause-apart g c = λ k d inside same.
    let parts = c.args.parts.now in
    let images = c.args.images.now in
    let i = c.loop-i.i in
    let image = c.index-images-i.result in
    let below : i < length images = omega (arith, c.loop-i-test.true, c.loop-i.auto.i-end) in
    let size : length parts ≡ length c.args.outs.now = ap length c.requires.parts ∙ length-map c.args.outs.now part_of in
    let name : List ℕ = (let p : Part = get_or image k d in p.name) in
    let there : get_or parts i name ≡ name = sym (get_or_read parts i c.index-parts-i.result (omega (arith, c.requires.names)) c.index-parts-i.is name) ∙ sym c.as_str-part.ensures ∙ sym same in
    apart_at parts images i image below c.index-images-i.is c.requires.apart k d inside (i, omega (arith, c.requires.names), there)

pub returns-in_err-write_image-clause-leaves : goal.returns-in_err-write_image-clause-leaves
returns-in_err-write_image-clause-leaves g c =
    let h0 = g.S.Shelf.held c.args.shelf.now in
    let outs = c.args.outs.now in
    let images = c.args.images.now in
    let sheet = c.args.sheet.now in
    let i = c.loop-i.i in
    let image = c.index-images-i.result in
    let to = c.as_str-to.result.now in
    let part = c.as_str-part.result.now in
    let below : i < length images = omega (arith, c.loop-i-test.true, c.loop-i.auto.i-end) in
    let named : to ≡ get_or outs i to = c.as_str-to.ensures ∙ get_or_read outs i c.index-outs-i.result (omega (arith, c.requires.names)) c.index-outs-i.is to in
    let part_is : part ≡ part_of to = part_at outs c.args.parts.now i part c.index-parts-i.result to c.requires.parts (omega (arith, c.requires.names)) c.as_str-part.ensures c.index-parts-i.is named in
    let make : Files → List ℕ = λ files. wav_bytes (joined_words image files) in
    let p = err_from_is_err_and c.from_residual.result c.from_residual.ensures.1 in
    left_stopped (image_outputs outs images sheet) c.args.text i part to make make part_is p.0 c.from_residual.result h0 (g.S.Shelf.held c.loop-i.shelf) (g.S.Shelf.held c.write_image.new.shelf) p.1
    (λ files told. image_fits outs images sheet c.requires.names c.requires.distinct c.args.parts.now c.args.text i part to image files part_is below c.index-images-i.is named c.requires.parts c.requires.apart (c.requires.free files told) (c.requires.inside files told))
    (let writes : IfErr c.write_image.result RefusesNothing = c.write_image.ensures.writing in let is : c.write_image.result ≡ Err p.0 = search rules in rw is at writes)
    c.loop-i.invariant.held
    (let is : c.write_image.result ≡ Err p.0 = search rules in rw is at c.write_image.ensures.refused)

pub returns-in_err-write_image-clause-crashes : goal.returns-in_err-write_image-clause-crashes
returns-in_err-write_image-clause-crashes g c =
    let tells = g.met.S.Shelf.tells_held in
    let h0 = g.S.Shelf.held c.args.shelf.now in
    let outs = c.args.outs.now in
    let images = c.args.images.now in
    let sheet = c.args.sheet.now in
    let i = c.loop-i.i in
    let image = c.index-images-i.result in
    let to = c.as_str-to.result.now in
    let part = c.as_str-part.result.now in
    let below : i < length images = omega (arith, c.loop-i-test.true, c.loop-i.auto.i-end) in
    let named : to ≡ get_or outs i to = c.as_str-to.ensures ∙ get_or_read outs i c.index-outs-i.result (omega (arith, c.requires.names)) c.index-outs-i.is to in
    let part_is : part ≡ part_of to = part_at outs c.args.parts.now i part c.index-parts-i.result to c.requires.parts (omega (arith, c.requires.names)) c.as_str-part.ensures c.index-parts-i.is named in
    let make : Files → List ℕ = λ files. wav_bytes (joined_words image files) in
    let p = err_from_is_err_and c.from_residual.result c.from_residual.ensures.1 in
    let is : c.write_image.result ≡ Err p.0 = search rules in
    let refuses_none : IfErr c.write_image.result RefusesNothing = c.write_image.ensures.writing in
    put_stopped (image_outputs outs images sheet) c.args.text i part to make make part_is (IsOk c.write_image.result) (ComesToEnd c.from_residual.result) h0 (g.S.Shelf.held c.loop-i.shelf) (g.S.Shelf.held c.write_image.new.shelf) _ _ _
    (tells c.args.shelf.now) (tells c.loop-i.shelf) (tells c.write_image.new.shelf)
    (λ files told. image_fits outs images sheet c.requires.names c.requires.distinct c.args.parts.now c.args.text i part to image files part_is below c.index-images-i.is named c.requires.parts c.requires.apart (c.requires.free files told) (c.requires.inside files told))
    (λ well. absurd (search rules)) (λ files told ends. refusing_none p.0 c.from_residual.result p.1 (rw is at refuses_none) ends) c.loop-i.invariant.crashes c.write_image.ensures.crashes

pub returns-in_err-write_image-clause-taken : goal.returns-in_err-write_image-clause-taken
returns-in_err-write_image-clause-taken g c =
    let images = c.args.images.now in
    let i = c.loop-i.i in
    let image = c.index-images-i.result in
    let below : i < length images = omega (arith, c.loop-i-test.true, c.loop-i.auto.i-end) in
    let more : sum_by word_count (take i images) + word_count image ≤ sum_by word_count images = image_more images i image below c.index-images-i.is in
    let p = err_from_is_err_and c.from_residual.result c.from_residual.ensures.1 in
    stopped_takes (2 * sum_by word_count images) _ _ c.write_image.result p.0 c.from_residual.result (search rules) p.1
    (takes_after (2 * sum_by word_count (take i images)) (2 * word_count image) (2 * sum_by word_count images) _ _ _ c.write_image.result c.loop-i.invariant.taken (omega arith) c.write_image.ensures.taken)

pub loop-i-preserved : goal.loop-i-preserved
loop-i-preserved g c =
    let tells = g.met.S.Shelf.tells_held in
    let h0 = g.S.Shelf.held c.args.shelf.now in
    let outs = c.args.outs.now in
    let images = c.args.images.now in
    let sheet = c.args.sheet.now in
    let i = c.loop-i.i in
    let image = c.index-images-i.result in
    let to = c.as_str-to.result.now in
    let part = c.as_str-part.result.now in
    let below : i < length images = omega (arith, c.loop-i-test.true, c.loop-i.auto.i-end) in
    let named : to ≡ get_or outs i to = c.as_str-to.ensures ∙ get_or_read outs i c.index-outs-i.result (omega (arith, c.requires.names)) c.index-outs-i.is to in
    let part_is : part ≡ part_of to = part_at outs c.args.parts.now i part c.index-parts-i.result to c.requires.parts (omega (arith, c.requires.names)) c.as_str-part.ensures c.index-parts-i.is named in
    let make : Files → List ℕ = λ files. wav_bytes (joined_words image files) in
    let fits = λ (files : Files) (told : h0 ≡ Some files). image_fits outs images sheet c.requires.names c.requires.distinct c.args.parts.now c.args.text i part to image files part_is below c.index-images-i.is named c.requires.parts c.requires.apart (c.requires.free files told) (c.requires.inside files told) in
    let well : IsOk c.write_image.result = search rules in
    let size : sum_by word_count (take (i + 1) images) ≡ sum_by word_count (take i images) + word_count image = image_next images i image below c.index-images-i.is in
    record {
      held = held_next (image_outputs outs images sheet) c.args.text i part to make make part_is h0 (g.S.Shelf.held c.loop-i.shelf) (g.S.Shelf.held c.write_image.new.shelf) fits c.loop-i.invariant.held c.in_ok-write_image.ensures.ok;
      crashes = put_next (image_outputs outs images sheet) c.args.text i part to make make part_is (IsOk c.write_image.result) h0 (g.S.Shelf.held c.loop-i.shelf) (g.S.Shelf.held c.write_image.new.shelf) _ _ _
          (tells c.args.shelf.now) (tells c.loop-i.shelf) (tells c.write_image.new.shelf) fits c.in_ok-write_image.ensures.ok well c.loop-i.invariant.crashes c.write_image.ensures.crashes;
      later = search rules;
      taken = omega (arith, c.in_ok-write_image.ensures.taken, c.loop-i.invariant.taken);
    }

pub write_sheet-requires-clause-free : goal.write_sheet-requires-clause-free
write_sheet-requires-clause-free g c =
    let h0 = g.S.Shelf.held c.args.shelf.now in
    let outs = c.args.outs.now in
    let images = c.args.images.now in
    let sheet = c.args.sheet.now in
    let to = c.as_str-sheet_to.result.now in
    let end : c.loop-i.i ≡ length images = omega (arith, c.loop-i-test.false, c.loop-i.auto.i-end) in
    let named : to ≡ get_or outs (length images) to = c.as_str-sheet_to.ensures ∙ get_or_read outs (length images) c.index-outs-last.result (omega (arith, c.requires.names)) c.index-outs-last.is to in
    told_after (λ files. after_outputs (take (length images) (image_outputs outs images sheet files)) files) h0 (g.S.Shelf.held c.loop-i.shelf) (λ files. All (λ out. get files out ≡ None) outs) (λ files. get files to ≡ None)
    (rw end at c.loop-i.invariant.held) c.requires.free (λ files free. sheet_free outs images sheet c.requires.names c.requires.distinct files to named free)

pub returns-in_err-write_sheet-clause-leaves : goal.returns-in_err-write_sheet-clause-leaves
returns-in_err-write_sheet-clause-leaves g c =
    let h0 = g.S.Shelf.held c.args.shelf.now in
    let outs = c.args.outs.now in
    let images = c.args.images.now in
    let sheet = c.args.sheet.now in
    let to = c.as_str-sheet_to.result.now in
    let part = c.as_str-sheet_part.result.now in
    let end : c.loop-i.i ≡ length images = omega (arith, c.loop-i-test.false, c.loop-i.auto.i-end) in
    let named : to ≡ get_or outs (length images) to = c.as_str-sheet_to.ensures ∙ get_or_read outs (length images) c.index-outs-last.result (omega (arith, c.requires.names)) c.index-outs-last.is to in
    let part_is : part ≡ part_of to = part_at outs c.args.parts.now (length images) part c.index-parts-last.result to c.requires.parts (omega (arith, c.requires.names)) c.as_str-sheet_part.ensures c.index-parts-last.is named in
    let p = err_from_is_err_and c.from_residual-in_err-write_sheet.result c.from_residual-in_err-write_sheet.ensures.1 in
    left_stopped (image_outputs outs images sheet) c.args.text (length images) part to (λ _. sheet) (λ _. sheet) part_is p.0 c.from_residual-in_err-write_sheet.result h0 (g.S.Shelf.held c.loop-i.shelf) (g.S.Shelf.held c.write_sheet.new.shelf) p.1
    (λ files told. sheet_fits outs images sheet c.requires.names c.requires.distinct c.args.parts.now c.args.text part to files part_is named)
    (let writes : IfErr c.write_sheet.result RefusesNothing = c.write_sheet.ensures.writing in let is : c.write_sheet.result ≡ Err p.0 = search rules in rw is at writes)
    (rw end at c.loop-i.invariant.held)
    (let is : c.write_sheet.result ≡ Err p.0 = search rules in rw is at c.write_sheet.ensures.refused)

pub returns-in_err-write_sheet-clause-crashes : goal.returns-in_err-write_sheet-clause-crashes
returns-in_err-write_sheet-clause-crashes g c =
    let tells = g.met.S.Shelf.tells_held in
    let h0 = g.S.Shelf.held c.args.shelf.now in
    let outs = c.args.outs.now in
    let images = c.args.images.now in
    let sheet = c.args.sheet.now in
    let to = c.as_str-sheet_to.result.now in
    let part = c.as_str-sheet_part.result.now in
    let end : c.loop-i.i ≡ length images = omega (arith, c.loop-i-test.false, c.loop-i.auto.i-end) in
    let named : to ≡ get_or outs (length images) to = c.as_str-sheet_to.ensures ∙ get_or_read outs (length images) c.index-outs-last.result (omega (arith, c.requires.names)) c.index-outs-last.is to in
    let part_is : part ≡ part_of to = part_at outs c.args.parts.now (length images) part c.index-parts-last.result to c.requires.parts (omega (arith, c.requires.names)) c.as_str-sheet_part.ensures c.index-parts-last.is named in
    let p = err_from_is_err_and c.from_residual-in_err-write_sheet.result c.from_residual-in_err-write_sheet.ensures.1 in
    let is : c.write_sheet.result ≡ Err p.0 = search rules in
    let refuses_none : IfErr c.write_sheet.result RefusesNothing = c.write_sheet.ensures.writing in
    put_stopped (image_outputs outs images sheet) c.args.text (length images) part to (λ _. sheet) (λ _. sheet) part_is (IsOk c.write_sheet.result) (ComesToEnd c.from_residual-in_err-write_sheet.result) h0 (g.S.Shelf.held c.loop-i.shelf) (g.S.Shelf.held c.write_sheet.new.shelf) _ _ _
    (tells c.args.shelf.now) (tells c.loop-i.shelf) (tells c.write_sheet.new.shelf)
    (λ files told. sheet_fits outs images sheet c.requires.names c.requires.distinct c.args.parts.now c.args.text part to files part_is named)
    (λ well. absurd (search rules)) (λ files told ends. refusing_none p.0 c.from_residual-in_err-write_sheet.result p.1 (rw is at refuses_none) ends) (rw end at c.loop-i.invariant.crashes) c.write_sheet.ensures.crashes

pub returns-clause-leaves : goal.returns-clause-leaves
returns-clause-leaves g c =
    let h0 = g.S.Shelf.held c.args.shelf.now in
    let outs = c.args.outs.now in
    let images = c.args.images.now in
    let sheet = c.args.sheet.now in
    let to = c.as_str-sheet_to.result.now in
    let part = c.as_str-sheet_part.result.now in
    let end : c.loop-i.i ≡ length images = omega (arith, c.loop-i-test.false, c.loop-i.auto.i-end) in
    let named : to ≡ get_or outs (length images) to = c.as_str-sheet_to.ensures ∙ get_or_read outs (length images) c.index-outs-last.result (omega (arith, c.requires.names)) c.index-outs-last.is to in
    let part_is : part ≡ part_of to = part_at outs c.args.parts.now (length images) part c.index-parts-last.result to c.requires.parts (omega (arith, c.requires.names)) c.as_str-sheet_part.ensures c.index-parts-last.is named in
    all_left (image_outputs outs images sheet) c.args.text (length images + 1) h0 (g.S.Shelf.held c.write_sheet.new.shelf)
    (λ files told. let many = outputs_many outs images sheet c.requires.names files in omega arith)
    (held_next (image_outputs outs images sheet) c.args.text (length images) part to (λ _. sheet) (λ _. sheet) part_is h0 (g.S.Shelf.held c.loop-i.shelf) (g.S.Shelf.held c.write_sheet.new.shelf)
    (λ files told. sheet_fits outs images sheet c.requires.names c.requires.distinct c.args.parts.now c.args.text part to files part_is named) (rw end at c.loop-i.invariant.held) c.in_ok-write_sheet.ensures.ok)

pub returns-clause-crashes : goal.returns-clause-crashes
returns-clause-crashes g c =
    let tells = g.met.S.Shelf.tells_held in
    let h0 = g.S.Shelf.held c.args.shelf.now in
    let outs = c.args.outs.now in
    let images = c.args.images.now in
    let sheet = c.args.sheet.now in
    let to = c.as_str-sheet_to.result.now in
    let part = c.as_str-sheet_part.result.now in
    let end : c.loop-i.i ≡ length images = omega (arith, c.loop-i-test.false, c.loop-i.auto.i-end) in
    let named : to ≡ get_or outs (length images) to = c.as_str-sheet_to.ensures ∙ get_or_read outs (length images) c.index-outs-last.result (omega (arith, c.requires.names)) c.index-outs-last.is to in
    let part_is : part ≡ part_of to = part_at outs c.args.parts.now (length images) part c.index-parts-last.result to c.requires.parts (omega (arith, c.requires.names)) c.as_str-sheet_part.ensures c.index-parts-last.is named in
    let well : IsOk c.write_sheet.result = search rules in
    all_put (image_outputs outs images sheet) c.args.text (length images + 1) _ _ _
    (put_next (image_outputs outs images sheet) c.args.text (length images) part to (λ _. sheet) (λ _. sheet) part_is (IsOk c.write_sheet.result) h0 (g.S.Shelf.held c.loop-i.shelf) (g.S.Shelf.held c.write_sheet.new.shelf) _ _ _
    (tells c.args.shelf.now) (tells c.loop-i.shelf) (tells c.write_sheet.new.shelf)
    (λ files told. sheet_fits outs images sheet c.requires.names c.requires.distinct c.args.parts.now c.args.text part to files part_is named) c.in_ok-write_sheet.ensures.ok well
    (rw end at c.loop-i.invariant.crashes) c.write_sheet.ensures.crashes)
