use Rattle.std.proofs.Common.{◌≡◌, ◌∙◌, Err, ◌+◌, ◌++◌, ◌∷◌, [], List, ap₂, get_or, length, map, rules, sym, take}
use Rattle.std.proofs.lemmas.List.{get_or_read}
use Rattle.std.proofs.lemmas.Result.{err_from_is_err_and}
use Rattle.rip_outside.specs.Files.{bytes_at}
use Rattle.engine_steps.specs.declared.steps.Stop.TheVariants.{Oom as WantStop}
use Rattle.rip_outside.proofs.FilesLaws.{if_told_both}
use Rattle.rip_outside.proofs.ReadingLaws.{reads_twice}
use Rattle.rip_inputs.specs.Opening.{lengths_of}
use Rattle.engine_steps.proofs.TakingLaws.{more_so_far, takes_so_far, takes_stopped}
use Rattle.cmd_merge.specs.MergeOutcome.{target}
use Rattle.cmd_merge.specs.Planning.{planned}
use Rattle.cmd_merge.specs.declared.planning.Planned.{Planned}
use Rattle.cmd_merge.proofs.AddLaws.{both_next, both_within, planned_more}
use Rattle.cmd_merge.proofs.planning.plan_merge.Goals as goal

pub returns-in_err-entry-clause-only : goal.returns-in_err-entry-clause-only
returns-in_err-entry-clause-only g c = reads_twice _ _ _ _ c.loop-name.invariant.only c.plan_entry.ensures.only

pub returns-in_err-entry-clause-taken : goal.returns-in_err-entry-clause-taken
returns-in_err-entry-clause-taken g c =
    let h0 = g.S.Shelf.held c.args.shelf.now in
    let from = c.args.from.now in
    let to = c.args.to.now in
    let names = c.args.names.now in
    let i = c.loop-name.name-index in
    let name = c.as_str.result.now in
    let here : name ≡ get_or names i name = c.as_str.ensures ∙ get_or_read names i c.name-item.result c.loop-name-test.true c.name-item.is name in
    let p = err_from_is_err_and c.from_residual.result c.from_residual.ensures.1 in
    takes_stopped h0 (g.S.Shelf.held c.loop-name.shelf) (λ files. lengths_of (take i names) files + lengths_of (map (target from to) (take i names)) files) (λ files. length (bytes_at name files) + length (bytes_at (target from to name) files))
    (λ files. lengths_of names files + lengths_of (map (target from to) names) files) _ _ _
    c.plan_entry.result p.0 c.from_residual.result (search rules) p.1 c.loop-name.invariant.only.same c.loop-name.invariant.taken c.plan_entry.ensures.taken
    (λ files told. both_within from to names i name c.loop-name-test.true here files)

pub loop-name-preserved : goal.loop-name-preserved
loop-name-preserved g c =
    let h0 = g.S.Shelf.held c.args.shelf.now in
    let from = c.args.from.now in
    let to = c.args.to.now in
    let names = c.args.names.now in
    let i = c.loop-name.name-index in
    let name = c.as_str.result.now in
    let here : name ≡ get_or names i name = c.as_str.ensures ∙ get_or_read names i c.name-item.result c.loop-name-test.true c.name-item.is name in
    let items : c.push.new.self.items ≡ c.loop-name.plan.items ++ c.in_ok-entry.entry ∷ [] = search rules in
    record {
      plan = if_told_both h0 (λ files. c.loop-name.plan.items ≡ map (planned from to files) (take i names)) (λ files. c.in_ok-entry.entry ≡ planned from to files name) _
          (λ files so_far one. items ∙ ap₂ (λ (a : List Planned) b. a ++ b ∷ []) so_far one ∙ sym (planned_more from to names i name c.loop-name-test.true here files))
          c.loop-name.invariant.plan (rw c.loop-name.invariant.only.same at c.in_ok-entry.ensures.plan);
      bytes = search rules;
      beside = search rules;
      only = reads_twice _ _ _ _ c.loop-name.invariant.only c.plan_entry.ensures.only;
      taken = more_so_far h0 (g.S.Shelf.held c.loop-name.shelf) (λ files. lengths_of (take i names) files + lengths_of (map (target from to) (take i names)) files) (λ files. length (bytes_at name files) + length (bytes_at (target from to name) files))
          (λ files. lengths_of (take (i + 1) names) files + lengths_of (map (target from to) (take (i + 1) names)) files) _ _ _
          c.plan_entry.result c.in_ok-entry.entry c.in_ok-entry.was c.loop-name.invariant.only.same c.loop-name.invariant.taken c.plan_entry.ensures.taken
          (λ files told. both_next from to names i name c.loop-name-test.true here files);
    }

pub returns-in_default-clause-only : goal.returns-in_default-clause-only
returns-in_default-clause-only g c = reads_twice _ _ _ _ c.loop-name.invariant.only c.plan_entry.ensures.only

pub returns-in_default-clause-taken : goal.returns-in_default-clause-taken
returns-in_default-clause-taken g c =
    let h0 = g.S.Shelf.held c.args.shelf.now in
    let from = c.args.from.now in
    let to = c.args.to.now in
    let names = c.args.names.now in
    let i = c.loop-name.name-index in
    let name = c.as_str.result.now in
    let here : name ≡ get_or names i name = c.as_str.ensures ∙ get_or_read names i c.name-item.result c.loop-name-test.true c.name-item.is name in
    takes_so_far {T = Unit {0}} h0 (λ files. lengths_of names files + lengths_of (map (target from to) names) files) _ _ (Err WantStop)
    (more_so_far h0 (g.S.Shelf.held c.loop-name.shelf) (λ files. lengths_of (take i names) files + lengths_of (map (target from to) (take i names)) files) (λ files. length (bytes_at name files) + length (bytes_at (target from to name) files))
    (λ files. lengths_of names files + lengths_of (map (target from to) names) files) _ _ _
    c.plan_entry.result c.in_ok-entry.entry c.in_ok-entry.was c.loop-name.invariant.only.same c.loop-name.invariant.taken c.plan_entry.ensures.taken
    (λ files told. both_within from to names i name c.loop-name-test.true here files))
