use Rattle.std.proofs.Common.{◌≡◌, ◌++◌, ap, ap₂, rules, ◌∙◌}
use Rattle.std.proofs.lemmas.Int.{to_z-of_z}
use mir.Syntax.{w32}
use mir.Val.{SFits, of_z, to_z}
use Rattle.accurip_match.specs.Matching.{offset_matches, place_matches, v2_where_picked}
use Rattle.accurip_match.specs.Offsets.{offset_at}
use Rattle.accurip_match.specs.Picking.{ids_of}
use Rattle.accurip_match.specs.Shifted.{v1_at}
use Rattle.accurip_match.proofs.listing.add_place.Goals as goal

pub returns : goal.returns
unfolding place_matches
returns c = λ y now rows.
    let toc = c.args.slider.now.toc in
    let blocks = c.args.blocks.now in
    let track = c.args.track in
    let fits : SFits w32 c.offset_of-offset.result = search rules in
    let at : to_z w32 (of_z w32 c.offset_of-offset.result) ≡ offset_at c.args.place = to_z-of_z w32 c.offset_of-offset.result fits ∙ c.offset_of-offset.ensures in
    c.in_ok-add_blocks.ensures ∙ ap (λ l. c.args.list.now.items ++ l)
    (ap (λ ids. offset_matches ids blocks track (to_z w32 (of_z w32 c.offset_of-offset.result)) c.v1_at.result c.v2_of.result) c.requires.ids
    ∙ ap₂ (λ v1 v2. offset_matches (ids_of toc) blocks track (to_z w32 (of_z w32 c.offset_of-offset.result)) v1 v2) (c.v1_at.ensures y now) (c.v2_of.ensures toc blocks y c.requires.last rows)
    ∙ ap (λ d. offset_matches (ids_of toc) blocks track d (v1_at toc y track (offset_at c.args.place)) (v2_where_picked toc blocks y track d)) at)
