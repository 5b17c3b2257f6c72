use Rattle.std.proofs.Common.{◌≡◌, ◌+◌, ◌++◌, List, length, ap, ap₂, subst, arith, sym, ◌∙◌}
use Rattle.std.specs.List.{flat_map, range_with_len}
use Rattle.accurip_match.specs.declared.listing.Match.{Match}
use Rattle.accurip_match.specs.declared.ids.DiscIds.{DiscIds}
use Rattle.accurip_match.specs.Matching.{AreMatches, response_matches, track_matches, v2_rows}
use Rattle.accurip_match.specs.Offsets.{all_offsets}
use Rattle.accurip_match.proofs.ListedLaws.{listed}
use Rattle.accurip_match.proofs.MatchLaws.{tracks_more}
use Rattle.accurip_match.proofs.listing.found.Goals as goal

pub loop-before-preserved : goal.loop-before-preserved
loop-before-preserved c = λ y now rows.
    let toc = c.args.slider.now.toc in
    c.in_ok-add_track.ensures y now (rows ∙ ap (λ blocks. v2_rows toc blocks y) (sym c.as_slice-blocks.ensures))
    ∙ ap₂ (λ l blocks. l ++ track_matches toc blocks y all_offsets (c.loop-before.before + 1)) (c.loop-before.invariant y now rows) c.as_slice-blocks.ensures
    ∙ sym (tracks_more (track_matches toc c.args.response.now y all_offsets) c.loop-before.before)

pub returns-clause-list : goal.returns-clause-list
unfolding response_matches
returns-clause-list c = λ y now rows.
    let toc = c.args.slider.now.toc in
    let all : c.loop-before.before ≡ length toc.starts = omega (arith, ap (λ (ids : DiscIds). ids.tracks) c.ids-ids.ensures) in
    c.of.ensures ∙ c.loop-before.invariant y now rows ∙ ap (λ n. flat_map (track_matches toc c.args.response.now y all_offsets) (range_with_len 1 n)) all

pub returns-clause-matches : goal.returns-clause-matches
returns-clause-matches c = λ y now rows.
    let toc = c.args.slider.now.toc in
    subst (λ (list : List Match). AreMatches toc c.args.response.now y list) (sym (returns-clause-list c y now rows)) (listed toc c.args.response.now y)
