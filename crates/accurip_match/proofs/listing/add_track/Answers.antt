use Rattle.std.proofs.Common.{◌++◌, append_assoc, append-nil, ap, sym, ◌∙◌}
use Rattle.accurip_match.specs.Matching.{place_matches, track_matches}
use Rattle.accurip_match.specs.Offsets.{offset_at, offsets_before}
use Rattle.accurip_match.proofs.MatchLaws.{places_more, places_none}
use Rattle.accurip_match.proofs.listing.add_track.Goals as goal

pub loop-place-init : goal.loop-place-init
loop-place-init c = λ y now rows.
    sym (ap (λ l. c.args.list.now.items ++ l) (places_none c.args.slider.now.toc c.args.blocks.now y c.args.track) ∙ append-nil c.args.list.now.items)

pub loop-place-preserved : goal.loop-place-preserved
loop-place-preserved c = λ y now rows.
    let toc = c.args.slider.now.toc in
    let blocks = c.args.blocks.now in
    let here = place_matches toc blocks y c.args.track (offset_at c.loop-place.place) in
    c.in_ok-add_place.ensures y now rows ∙ ap (λ l. l ++ here) (c.loop-place.invariant y now rows)
    ∙ append_assoc c.args.list.now.items (track_matches toc blocks y (offsets_before c.loop-place.place) c.args.track) here
    ∙ ap (λ l. c.args.list.now.items ++ l) (sym (places_more toc blocks y c.loop-place.place c.args.track))
