use Rattle.std.proofs.Common.{◌≡◌, ◌∙◌, ◌+◌, ◌-◌, ◌*◌, ◌<◌, ◌≤◌, ◌∷◌, [], ◌++◌, ℕ, List, map, ap, ap₂, length, subst, sym, arith, rules}
use Rattle.std.specs.Prelude.{ℤ, IfSome}
use Rattle.std.specs.List.{range_with_len}
use Rattle.std.proofs.lemmas.Int.{to_z-of_z}
use mir.Syntax.{w32}
use mir.Val.{of_z, to_z}
use Rattle.std.proofs.lemmas.Result.{err_from_is_err_and}
use Rattle.std.proofs.lemmas.List.FromFn.{map-range_with_len_more}
use Rattle.rip_outside.specs.Files.{Files}
use Rattle.rip_outside.proofs.FilesLaws.{if_told_both}
use Rattle.accurip_sums.specs.declared.pair.Sums.{Sums}
use Rattle.accurip_match.specs.Shifted.{shifted_sums}
use Rattle.disc_toc.specs.Toc.{toc_of}
use Rattle.image_mender.specs.Joined.{joined_words, word_count}
use Rattle.engine_sums.specs.Tracks.{begin_of}
use Rattle.engine_sums.proofs.BeginLaws.{begin_rises, begin_within}
use Rattle.engine_steps.proofs.TakingLaws.{stopped_takes, takes_after}
use Rattle.rip_outside.proofs.ReadingLaws.{reads_twice}
use Rattle.cmd_match.proofs.moved.row_at.Goals as goal

pub returns-in_err-sums-clause-taken : goal.returns-in_err-sums-clause-taken
returns-in_err-sums-clause-taken g c =
    let layout = c.args.layout.now in
    let toc = toc_of layout in
    let i = c.loop-i.i in
    let all = 2 * word_count c.args.image.now in
    let below : i < length layout.starts = omega (arith, c.loop-i-test.true, c.loop-i.auto.i-end, ap length c.as_slice-i-end.ensures) in
    let fits : 2352 * begin_of toc i + 2352 * (begin_of toc (i + 1) - begin_of toc i) ≤ all =
    omega (arith, c.requires.count, begin_rises toc layout.valid i below, begin_within toc layout.valid (i + 1) (omega arith)) in
    let p = err_from_is_err_and c.from_residual.result c.from_residual.ensures.1 in
    stopped_takes all _ _ c.sum_moved.result p.0 c.from_residual.result (search rules) p.1
    (takes_after (2352 * begin_of toc i) (2352 * (begin_of toc (i + 1) - begin_of toc i)) all _ _ _ c.sum_moved.result c.loop-i.invariant.taken fits c.sum_moved.ensures.taken)

pub returns-in_default-clause-taken : goal.returns-in_default-clause-taken
returns-in_default-clause-taken g c =
    let layout = c.args.layout.now in
    let toc = toc_of layout in
    let i = c.loop-i.i in
    let below : i < length layout.starts = omega (arith, c.loop-i-test.true, c.loop-i.auto.i-end, ap length c.as_slice-i-end.ensures) in
    omega (arith, c.requires.count, c.in_ok-sums.ensures.taken, c.loop-i.invariant.taken, begin_rises toc layout.valid i below, begin_within toc layout.valid (i + 1) (omega arith))

pub loop-i-preserved : goal.loop-i-preserved
loop-i-preserved g c =
    let layout = c.args.layout.now in
    let toc = toc_of layout in
    let i = c.loop-i.i in
    let f : Files → ℕ → Sums = λ files t. shifted_sums toc (joined_words c.args.image.now files) t c.args.offset in
    let below : i < length layout.starts = omega (arith, c.loop-i-test.true, c.loop-i.auto.i-end, ap length c.as_slice-i-end.ensures) in
    let items : c.push.new.self.items ≡ c.loop-i.list.items ++ c.in_ok-sums.sums ∷ [] = search rules in
    let next : 1 + i ≡ i + 1 = omega arith in
    let kept : to_z w32 (of_z w32 c.args.offset) ≡ c.args.offset = to_z-of_z w32 c.args.offset c.ranges.offset in
    let here : IfSome (g.S.Shelf.held c.args.shelf.now) (λ files. c.in_ok-sums.sums ≡ f files (i + 1)) =
    subst (λ (d : ℤ). IfSome (g.S.Shelf.held c.args.shelf.now) (λ files. c.in_ok-sums.sums ≡ shifted_sums toc (joined_words c.args.image.now files) (i + 1) d)) kept
    (rw c.loop-i.invariant.only.same at c.in_ok-sums.ensures.sums) in
    let so_far : IfSome (g.S.Shelf.held c.args.shelf.now) (λ files. c.loop-i.list.items ≡ map (f files) (range_with_len 1 i)) =
    subst (λ (d : ℤ). IfSome (g.S.Shelf.held c.args.shelf.now) (λ files. c.loop-i.list.items ≡ map (λ t. shifted_sums toc (joined_words c.args.image.now files) t d) (range_with_len 1 i))) kept c.loop-i.invariant.list in
    let more : IfSome (g.S.Shelf.held c.args.shelf.now) (λ files. c.push.new.self.items ≡ map (f files) (range_with_len 1 (i + 1))) =
    if_told_both (g.S.Shelf.held c.args.shelf.now) (λ files. c.loop-i.list.items ≡ map (f files) (range_with_len 1 i)) (λ files. c.in_ok-sums.sums ≡ f files (i + 1)) _
    (λ files so_far here. items ∙ ap₂ (λ (a : List Sums) b. a ++ b ∷ []) so_far here ∙ sym (map-range_with_len_more (f files) 1 i (i + 1) next)) so_far here in
    record {
      scratch = search rules;
      words = search rules;
      list = subst (λ (d : ℤ). IfSome (g.S.Shelf.held c.args.shelf.now) (λ files. c.push.new.self.items ≡ map (λ t. shifted_sums toc (joined_words c.args.image.now files) t d) (range_with_len 1 (i + 1)))) (sym kept) more;
      only = reads_twice _ _ _ _ c.loop-i.invariant.only c.sum_moved.ensures.only;
      taken = omega (arith, c.in_ok-sums.ensures.taken, c.loop-i.invariant.taken, begin_rises toc layout.valid i below);
    }

pub returns-clause-taken : goal.returns-clause-taken
returns-clause-taken g c =
    let layout = c.args.layout.now in
    let most : c.loop-i.i ≤ length layout.starts = omega (arith, c.loop-i.auto.i-end, ap length c.as_slice-i-end.ensures) in
    omega (arith, c.requires.count, c.loop-i.invariant.taken, begin_within (toc_of layout) layout.valid c.loop-i.i most)

pub returns-in_err-sums-clause-only : goal.returns-in_err-sums-clause-only
returns-in_err-sums-clause-only g c = reads_twice _ _ _ _ c.loop-i.invariant.only c.sum_moved.ensures.only

pub returns-in_default-clause-only : goal.returns-in_default-clause-only
returns-in_default-clause-only g c = reads_twice _ _ _ _ c.loop-i.invariant.only c.sum_moved.ensures.only
