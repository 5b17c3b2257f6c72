use Rattle.std.proofs.Common.{◌≡◌, ◌+◌, ap, arith, sym, ◌∙◌}
use Rattle.std.specs.List.{list_any, range_with_len}
use Rattle.accurip_match.specs.declared.ids.DiscIds.{DiscIds}
use Rattle.accurip_match.specs.Offsets.{offset_at}
use Rattle.accurip_match.specs.Picking.{has_sum, has_v1_match, ids_of}
use Rattle.accurip_match.specs.Shifted.{v1_at}
use Rattle.accurip_match.proofs.PickingLaws.{any_here, any_more, same_known}
use Rattle.accurip_match.proofs.slider.Slider.has_match.Goals as goal

pub returns-then-is_known : goal.returns-then-is_known
unfolding has_v1_match
returns-then-is_known c = λ y now.
    let toc = c.args.self.now.toc in
    let tracks = ap (λ (ids : DiscIds). ids.tracks) c.requires.ids in
    sym (any_here (λ t. list_any (has_sum (ids_of toc) t (v1_at toc y t (offset_at c.args.place))) c.args.blocks.now) _ c.loop-before.before (omega (arith, tracks))
    (sym (same_known c.args.ids.now (ids_of toc) (c.loop-before.before + 1) c.v1_at.result _ c.args.blocks.now c.requires.ids (c.v1_at.ensures y now)) ∙ sym c.is_known.ensures ∙ c.if-is_known.true))

pub loop-before-preserved : goal.loop-before-preserved
loop-before-preserved c = λ y now.
    let toc = c.args.self.now.toc in
    any_more (λ t. list_any (has_sum (ids_of toc) t (v1_at toc y t (offset_at c.args.place))) c.args.blocks.now) c.loop-before.before (c.loop-before.invariant y now)
    (sym (same_known c.args.ids.now (ids_of toc) (c.loop-before.before + 1) c.v1_at.result _ c.args.blocks.now c.requires.ids (c.v1_at.ensures y now)) ∙ sym c.is_known.ensures ∙ c.if-is_known.false)

pub returns : goal.returns
unfolding has_v1_match
returns c = λ y now.
    let toc = c.args.self.now.toc in
    let tracks = ap (λ (ids : DiscIds). ids.tracks) c.requires.ids in
    let all : c.loop-before.before ≡ c.args.ids.now.tracks = omega arith in
    sym (ap (λ n. list_any (λ t. list_any (has_sum (ids_of toc) t (v1_at toc y t (offset_at c.args.place))) c.args.blocks.now) (range_with_len 1 n)) (sym (all ∙ tracks)) ∙ c.loop-before.invariant y now)
