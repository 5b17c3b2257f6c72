use Rattle.std.proofs.Common.{◌≡◌, ◌∙◌, ◌*◌, ◌≤◌, ℕ, List, length, map, ap, ap₂, subst, sym, arith, rules}
use Rattle.std.specs.Prelude.{ℤ, All}
use Rattle.std.proofs.lemmas.Result.{err_from_is_err_and}
use Rattle.std.proofs.Math.Nat.{mul-le-mul_left}
use Rattle.rip_outside.proofs.FilesLaws.{if_told, when_told}
use Rattle.disc_toc.specs.Toc.{Toc, toc_of}
use Rattle.accurip_match.specs.Matching.{AreMatches, v2_row, v2_rows}
use Rattle.accurip_match.specs.Picking.{picked_offsets}
use Rattle.accurip_match.specs.Offsets.{IsMatchOffset}
use Rattle.accurip_match.proofs.PickingLaws.{picked_few, picked_within}
use Rattle.image_mender.specs.Joined.{joined_words, word_count}
use Rattle.engine_steps.proofs.TakingLaws.{stopped_takes, takes_after, takes_within}
use Rattle.rip_outside.proofs.ReadingLaws.{reads_twice}
use Rattle.cmd_match.specs.Span.{moved_rows}
use Rattle.cmd_match.proofs.matches_of.Goals as goal

pub rows_at-requires-clause-within : goal.rows_at-requires-clause-within
rows_at-requires-clause-within g c =
    let s = c.in_ok-slider.ensures.stands in
    let slider = c.in_ok-slider.slider in
    let picked : c.as_slice.result.now ≡ picked_offsets slider.toc c.args.response.now s.0 = c.as_slice.ensures ∙ c.in_ok-picked.ensures s.0 s.1 in
    subst (λ (offsets : List ℤ). All IsMatchOffset offsets) (sym picked) (picked_within slider.toc c.args.response.now s.0)

pub returns-in_err-rows-clause-only : goal.returns-in_err-rows-clause-only
returns-in_err-rows-clause-only g c = reads_twice _ _ _ _ c.slide_over.ensures.only c.rows_at.ensures.only

pub returns-in_err-found-clause-only : goal.returns-in_err-found-clause-only
returns-in_err-found-clause-only g c = reads_twice _ _ _ _ c.slide_over.ensures.only c.rows_at.ensures.only

pub returns-clause-only : goal.returns-clause-only
returns-clause-only g c = reads_twice _ _ _ _ c.slide_over.ensures.only c.rows_at.ensures.only

pub returns-in_err-rows-clause-taken : goal.returns-in_err-rows-clause-taken
returns-in_err-rows-clause-taken g c =
    let s = c.in_ok-slider.ensures.stands in
    let slider = c.in_ok-slider.slider in
    let one : ℕ = 2 * word_count c.args.image.now in
    let picked : c.as_slice.result.now ≡ picked_offsets slider.toc c.args.response.now s.0 = c.as_slice.ensures ∙ c.in_ok-picked.ensures s.0 s.1 in
    let few : length c.as_slice.result.now ≤ 9 = omega (arith, picked_few slider.toc c.args.response.now s.0, ap (λ (l : List ℤ). length l) picked) in
    let most : one * length c.as_slice.result.now ≤ one * 9 = mul-le-mul_left one few in
    let p = err_from_is_err_and c.from_residual-in_err-rows.result c.from_residual-in_err-rows.ensures.1 in
    stopped_takes (20 * word_count c.args.image.now) _ _ c.rows_at.result p.0 c.from_residual-in_err-rows.result (search rules) p.1
    (takes_after one (one * length c.as_slice.result.now) (20 * word_count c.args.image.now) _ _ _ c.rows_at.result c.in_ok-slider.ensures.taken (omega (arith, most)) c.rows_at.ensures.taken)

pub returns-in_err-found-clause-taken : goal.returns-in_err-found-clause-taken
returns-in_err-found-clause-taken g c =
    let s = c.in_ok-slider.ensures.stands in
    let slider = c.in_ok-slider.slider in
    let one : ℕ = 2 * word_count c.args.image.now in
    let picked : c.as_slice.result.now ≡ picked_offsets slider.toc c.args.response.now s.0 = c.as_slice.ensures ∙ c.in_ok-picked.ensures s.0 s.1 in
    let few : length c.as_slice.result.now ≤ 9 = omega (arith, picked_few slider.toc c.args.response.now s.0, ap (λ (l : List ℤ). length l) picked) in
    let most : one * length c.as_slice.result.now ≤ one * 9 = mul-le-mul_left one few in
    takes_within (20 * word_count c.args.image.now) _ _ _ (omega (arith, most, c.in_ok-slider.ensures.taken, c.in_ok-rows.ensures.taken))

pub returns-clause-taken : goal.returns-clause-taken
returns-clause-taken g c =
    let s = c.in_ok-slider.ensures.stands in
    let slider = c.in_ok-slider.slider in
    let one : ℕ = 2 * word_count c.args.image.now in
    let picked : c.as_slice.result.now ≡ picked_offsets slider.toc c.args.response.now s.0 = c.as_slice.ensures ∙ c.in_ok-picked.ensures s.0 s.1 in
    let few : length c.as_slice.result.now ≤ 9 = omega (arith, picked_few slider.toc c.args.response.now s.0, ap (λ (l : List ℤ). length l) picked) in
    let most : one * length c.as_slice.result.now ≤ one * 9 = mul-le-mul_left one few in
    omega (arith, most, c.in_ok-slider.ensures.taken, c.in_ok-rows.ensures.taken)

pub returns-clause-matches : goal.returns-clause-matches
unfolding moved_rows v2_rows
returns-clause-matches g c = if_told (g.S.Shelf.held c.args.shelf.now) _ (λ files told.
    let toc = toc_of c.args.layout.now in
    let blocks = c.args.response.now in
    let rip : List ℕ = joined_words c.args.image.now files in
    let slider = c.in_ok-slider.slider in
    let s = c.in_ok-slider.ensures.stands in
    let own : slider.toc ≡ toc = c.in_ok-slider.ensures.toc in
    let is : s.0 ≡ rip = when_told (g.S.Shelf.held c.args.shelf.now) _ s.2 files told in
    let picked : c.as_slice.result.now ≡ picked_offsets slider.toc blocks s.0 = c.as_slice.ensures ∙ c.in_ok-picked.ensures s.0 s.1 in
    let read : c.in_ok-rows.rows ≡ moved_rows toc rip c.as_slice.result.now = when_told (g.S.Shelf.held c.args.shelf.now) _ (rw c.slide_over.ensures.only.same at c.in_ok-rows.ensures.rows) files told in
    let rows : c.as_slice-2.result.now ≡ v2_rows slider.toc blocks s.0 =
    c.as_slice-2.ensures ∙ read ∙ ap (λ (offsets : List ℤ). map (v2_row toc rip) offsets) picked
    ∙ ap₂ (λ (t : Toc) (w : List ℕ). map (v2_row t w) (picked_offsets slider.toc blocks s.0)) (sym own) (sym is) in
    subst (λ (t : Toc). AreMatches t blocks rip c.in_ok-found.field-0) own (subst (λ (w : List ℕ). AreMatches slider.toc blocks w c.in_ok-found.field-0) is (c.in_ok-found.ensures.matches s.0 s.1 rows)))
