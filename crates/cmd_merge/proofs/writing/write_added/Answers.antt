use Rattle.std.proofs.Common.{◌≡◌, ◌∙◌, ◌+◌, ◌<◌, List, ℕ, ap, arith, length, refl, rules, subst, sym, take, get_or, true, Err, None, Some}
use Rattle.std.specs.Prelude.{IfErr, IsOk}
use Rattle.std.specs.Option.{option_map}
use Rattle.std.specs.FinMap.{get}
use Rattle.std.proofs.lemmas.List.{length-map}
use Rattle.std.proofs.lemmas.Result.{err_from_is_err_and}
use Rattle.rip_outside.specs.Files.{Files, bytes_at}
use Rattle.rip_outside.specs.Outputs.{after_outputs, part_of}
use Rattle.rip_outside.proofs.FilesLaws.{if_told, told_after, when_told}
use Rattle.rip_inputs.specs.Opening.{lengths_of}
use Rattle.store_upkeep.specs.Entries.{entry_state}
use Rattle.store_upkeep.specs.Looking.{is_good}
use Rattle.engine_outputs.specs.Writing.{RefusesNothing}
use Rattle.engine_outputs.proofs.OneMoreLaws.{all_left, all_put, held_next, left_stopped, put_next, put_stopped, refusing_none}
use Rattle.engine_steps.specs.Steps.{ComesToEnd, Takes}
use Rattle.engine_steps.proofs.TakingLaws.{more_so_far, takes_stopped}
use Rattle.cmd_store.proofs.LineLaws.{lengths_next, lengths_within}
use Rattle.cmd_merge.specs.MergeOutcome.{merge_output, merge_outputs}
use Rattle.cmd_merge.specs.Planning.{planned}
use Rattle.cmd_merge.proofs.AddLaws.{IsNext, added, next_bytes, next_fits, next_is_free, next_is_good, next_of, part_here}
use Rattle.cmd_merge.proofs.writing.write_added.Goals as goal

pub copy_entry-requires-clause-free : goal.copy_entry-requires-clause-free
copy_entry-requires-clause-free g c =
    let h0 = g.S.Shelf.held c.args.shelf.now in
    let from = c.args.from.now in
    let to = c.args.to.now in
    let i = c.loop-i.i in
    let name = c.as_str-name.result.now in
    let out = c.as_str.result.now in
    told_after (λ files. after_outputs (take i (merge_outputs from to files)) files) h0 (g.S.Shelf.held c.loop-i.shelf) (IsNext from to i name out) (λ files. get files out ≡ None) c.loop-i.invariant.held
    (λ files told. next_of from to c.args.plan.now i c.index-plan-i.result name out files (c.requires.plan files told) (omega (arith, c.loop-i-test.true, c.loop-i.auto.i-end)) c.index-plan-i.is c.as_str-name.ensures c.as_str.ensures)
    (λ files next. next_is_free from to i name out files next)

pub copy_entry-requires-clause-good : goal.copy_entry-requires-clause-good
copy_entry-requires-clause-good g c =
    let h0 = g.S.Shelf.held c.args.shelf.now in
    let from = c.args.from.now in
    let to = c.args.to.now in
    let i = c.loop-i.i in
    let name = c.as_str-name.result.now in
    let out = c.as_str.result.now in
    told_after (λ files. after_outputs (take i (merge_outputs from to files)) files) h0 (g.S.Shelf.held c.loop-i.shelf) (IsNext from to i name out) (λ files. is_good (entry_state from files name) ≡ true) c.loop-i.invariant.held
    (λ files told. next_of from to c.args.plan.now i c.index-plan-i.result name out files (c.requires.plan files told) (omega (arith, c.loop-i-test.true, c.loop-i.auto.i-end)) c.index-plan-i.is c.as_str-name.ensures c.as_str.ensures)
    (λ files next. next_is_good from to i name out files next)

pub returns-in_err-copy_entry-clause-leaves : goal.returns-in_err-copy_entry-clause-leaves
returns-in_err-copy_entry-clause-leaves g c =
    let h0 = g.S.Shelf.held c.args.shelf.now in
    let h1 = g.S.Shelf.held c.loop-i.shelf in
    let from = c.args.from.now in
    let to = c.args.to.now in
    let i = c.loop-i.i in
    let name = c.as_str-name.result.now in
    let out = c.as_str.result.now in
    let part = c.as_str-part.result.now in
    let below : i < length c.args.plan.now = omega (arith, c.loop-i-test.true, c.loop-i.auto.i-end) in
    let part_is : part ≡ part_of out = c.as_str-part.ensures ∙ part_here c.args.plan.now i c.index-plan-i.result c.index-parts-i.result below c.index-plan-i.is (c.index-parts-i.is ∙ ap (λ (l : List (List ℕ)). get_or l i c.index-parts-i.result) c.requires.parts) ∙ ap part_of (sym c.as_str.ensures) in
    let p = err_from_is_err_and c.from_residual.result c.from_residual.ensures.1 in
    let was : c.copy_entry.result ≡ Err p.0 = search rules in
    if_told h0 _ (λ files told.
    let now : h1 ≡ Some (after_outputs (take i (merge_outputs from to files)) files) = c.loop-i.invariant.held ∙ ap (option_map (λ f. after_outputs (take i (merge_outputs from to f)) f)) told in
    let writes : IfErr c.copy_entry.result RefusesNothing = when_told h1 _ c.copy_entry.ensures.writing (after_outputs (take i (merge_outputs from to files)) files) now in
    when_told h0 _ (left_stopped (merge_outputs from to) c.args.text i part out (bytes_at name) (bytes_at name) part_is p.0 c.from_residual.result h0 h1 (g.S.Shelf.held c.copy_entry.new.shelf) p.1
    (λ f known. next_fits from to i name out f (next_of from to c.args.plan.now i c.index-plan-i.result name out f (c.requires.plan f known) below c.index-plan-i.is c.as_str-name.ensures c.as_str.ensures) c.args.text part part_is)
    (rw was at writes) c.loop-i.invariant.held (rw was at c.copy_entry.ensures.refused)) files told)

pub returns-in_err-copy_entry-clause-crashes : goal.returns-in_err-copy_entry-clause-crashes
returns-in_err-copy_entry-clause-crashes g c =
    let tells = g.met.S.Shelf.tells_held in
    let h0 = g.S.Shelf.held c.args.shelf.now in
    let h1 = g.S.Shelf.held c.loop-i.shelf in
    let from = c.args.from.now in
    let to = c.args.to.now in
    let i = c.loop-i.i in
    let name = c.as_str-name.result.now in
    let out = c.as_str.result.now in
    let part = c.as_str-part.result.now in
    let below : i < length c.args.plan.now = omega (arith, c.loop-i-test.true, c.loop-i.auto.i-end) in
    let part_is : part ≡ part_of out = c.as_str-part.ensures ∙ part_here c.args.plan.now i c.index-plan-i.result c.index-parts-i.result below c.index-plan-i.is (c.index-parts-i.is ∙ ap (λ (l : List (List ℕ)). get_or l i c.index-parts-i.result) c.requires.parts) ∙ ap part_of (sym c.as_str.ensures) in
    let p = err_from_is_err_and c.from_residual.result c.from_residual.ensures.1 in
    let was : c.copy_entry.result ≡ Err p.0 = search rules in
    let writes = λ (files : Files) (told : h0 ≡ Some files).
    let now : h1 ≡ Some (after_outputs (take i (merge_outputs from to files)) files) = c.loop-i.invariant.held ∙ ap (option_map (λ f. after_outputs (take i (merge_outputs from to f)) f)) told in
    let refuses_none : IfErr c.copy_entry.result RefusesNothing = when_told h1 _ c.copy_entry.ensures.writing (after_outputs (take i (merge_outputs from to files)) files) now in
    rw was at refuses_none in
    put_stopped (merge_outputs from to) c.args.text i part out (bytes_at name) (bytes_at name) part_is (IsOk c.copy_entry.result) (ComesToEnd c.from_residual.result) h0 (g.S.Shelf.held c.loop-i.shelf) (g.S.Shelf.held c.copy_entry.new.shelf) _ _ _
    (tells c.args.shelf.now) (tells c.loop-i.shelf) (tells c.copy_entry.new.shelf)
    (λ f known. next_fits from to i name out f (next_of from to c.args.plan.now i c.index-plan-i.result name out f (c.requires.plan f known) below c.index-plan-i.is c.as_str-name.ensures c.as_str.ensures) c.args.text part part_is)
    (λ well. absurd (search rules)) (λ files told ends. refusing_none p.0 c.from_residual.result p.1 (writes files told) ends) c.loop-i.invariant.crashes c.copy_entry.ensures.crashes

pub returns-in_err-copy_entry-clause-taken : goal.returns-in_err-copy_entry-clause-taken
returns-in_err-copy_entry-clause-taken g c =
    let h0 = g.S.Shelf.held c.args.shelf.now in
    let h1 = g.S.Shelf.held c.loop-i.shelf in
    let from = c.args.from.now in
    let to = c.args.to.now in
    let i = c.loop-i.i in
    let name = c.as_str-name.result.now in
    let out = c.as_str.result.now in
    let below : i < length c.args.plan.now = omega (arith, c.loop-i-test.true, c.loop-i.auto.i-end) in
    let next = λ (files : Files) (told : h0 ≡ Some files). next_of from to c.args.plan.now i c.index-plan-i.result name out files (c.requires.plan files told) below c.index-plan-i.is c.as_str-name.ensures c.as_str.ensures in
    let p = err_from_is_err_and c.from_residual.result c.from_residual.ensures.1 in
    takes_stopped h0 h0 (λ files. lengths_of (take i (added from to files)) files) (λ files. length (bytes_at name files)) (λ files. lengths_of (added from to files) files) _ _ _
    c.copy_entry.result p.0 c.from_residual.result (search rules) p.1 refl c.loop-i.invariant.taken
    (if_told h0 _ (λ files told. subst (λ (n : ℕ). Takes n c.copy_entry.result (g.S.Shelf.taken c.loop-i.shelf) (g.S.Shelf.taken c.copy_entry.new.shelf)) (ap length (next_bytes from to i name out files (next files told)))
    (when_told h1 _ c.copy_entry.ensures.taken (after_outputs (take i (merge_outputs from to files)) files) (c.loop-i.invariant.held ∙ ap (option_map (λ f. after_outputs (take i (merge_outputs from to f)) f)) told))))
    (λ files told. lengths_within (added from to files) i name (next files told).below (next files told).here files)

pub loop-i-preserved : goal.loop-i-preserved
loop-i-preserved g c =
    let tells = g.met.S.Shelf.tells_held in
    let h0 = g.S.Shelf.held c.args.shelf.now in
    let h1 = g.S.Shelf.held c.loop-i.shelf in
    let from = c.args.from.now in
    let to = c.args.to.now in
    let i = c.loop-i.i in
    let name = c.as_str-name.result.now in
    let out = c.as_str.result.now in
    let part = c.as_str-part.result.now in
    let below : i < length c.args.plan.now = omega (arith, c.loop-i-test.true, c.loop-i.auto.i-end) in
    let part_is : part ≡ part_of out = c.as_str-part.ensures ∙ part_here c.args.plan.now i c.index-plan-i.result c.index-parts-i.result below c.index-plan-i.is (c.index-parts-i.is ∙ ap (λ (l : List (List ℕ)). get_or l i c.index-parts-i.result) c.requires.parts) ∙ ap part_of (sym c.as_str.ensures) in
    let next = λ (files : Files) (told : h0 ≡ Some files). next_of from to c.args.plan.now i c.index-plan-i.result name out files (c.requires.plan files told) below c.index-plan-i.is c.as_str-name.ensures c.as_str.ensures in
    let fits = λ (files : Files) (told : h0 ≡ Some files). next_fits from to i name out files (next files told) c.args.text part part_is in
    let well : IsOk c.copy_entry.result = search rules in
    record {
      room = search rules;
      held = held_next (merge_outputs from to) c.args.text i part out (bytes_at name) (bytes_at name) part_is h0 h1 (g.S.Shelf.held c.copy_entry.new.shelf) fits c.loop-i.invariant.held c.in_ok-copy_entry.ensures.ok;
      crashes = put_next (merge_outputs from to) c.args.text i part out (bytes_at name) (bytes_at name) part_is (IsOk c.copy_entry.result) h0 h1 (g.S.Shelf.held c.copy_entry.new.shelf) _ _ _
          (tells c.args.shelf.now) (tells c.loop-i.shelf) (tells c.copy_entry.new.shelf) fits c.in_ok-copy_entry.ensures.ok well c.loop-i.invariant.crashes c.copy_entry.ensures.crashes;
      later = search rules;
      taken = more_so_far h0 h0 (λ files. lengths_of (take i (added from to files)) files) (λ files. length (bytes_at name files)) (λ files. lengths_of (take (i + 1) (added from to files)) files) _ _ _
          c.copy_entry.result c.in_ok-copy_entry.field-0 c.in_ok-copy_entry.was refl c.loop-i.invariant.taken
          (if_told h0 _ (λ files told. subst (λ (n : ℕ). Takes n c.copy_entry.result (g.S.Shelf.taken c.loop-i.shelf) (g.S.Shelf.taken c.copy_entry.new.shelf)) (ap length (next_bytes from to i name out files (next files told)))
          (when_told h1 _ c.copy_entry.ensures.taken (after_outputs (take i (merge_outputs from to files)) files) (c.loop-i.invariant.held ∙ ap (option_map (λ f. after_outputs (take i (merge_outputs from to f)) f)) told))))
          (λ files told. lengths_next (added from to files) i name (next files told).below (next files told).here files);
    }

pub returns-clause-crashes : goal.returns-clause-crashes
returns-clause-crashes g c = all_put (merge_outputs c.args.from.now c.args.to.now) c.args.text c.loop-i.i _ _ _ c.loop-i.invariant.crashes

pub returns-clause-leaves : goal.returns-clause-leaves
returns-clause-leaves g c =
    let from = c.args.from.now in
    let to = c.args.to.now in
    all_left (merge_outputs from to) c.args.text c.loop-i.i (g.S.Shelf.held c.args.shelf.now) (g.S.Shelf.held c.loop-i.shelf)
    (λ files told.
    let plan : length c.args.plan.now ≡ length (added from to files) = ap length (c.requires.plan files told) ∙ length-map (added from to files) (planned from to files) in
    let outs : length (merge_outputs from to files) ≡ length (added from to files) = length-map (added from to files) (merge_output from to files) in
    omega (arith, c.loop-i-test.false, c.loop-i.auto.i-end))
    c.loop-i.invariant.held
