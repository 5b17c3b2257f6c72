use Rattle.std.proofs.Common.{◌≡◌, ◌-◌, List, length, get_or, rules, arith, ap, sym, ◌∙◌, false, take}
use Rattle.std.specs.List.{list_any}
use Rattle.std.specs.Ordering.{int_eq}
use Rattle.std.proofs.lemmas.Int.{to_z-of_z}
use mir.Syntax.{w32}
use mir.Val.{SFits}
use Rattle.accurip_sums.specs.declared.pair.Sums.{Sums}
use Rattle.accurip_match.specs.declared.listing.V2Row.{V2Row}
use Rattle.accurip_match.proofs.MatchLaws.{row_long, same_bits, v2_found, v2_missing}
use Rattle.accurip_match.proofs.listing.v2_of.Goals as goal

pub returns-in-Some : goal.returns-in-Some
returns-in-Some c = λ toc blocks y within rows.
    let fits : SFits w32 c.row-item.result.offset = search rules in
    v2_found toc y blocks c.args.rows.now c.loop-row.row-index c.row-item.result c.args.track c.args.offset c.in-Some.sums.now rows (omega arith) c.row-item.is
    (same_bits c.row-item.result.offset c.args.offset fits c.ranges.offset c.if-row-offset.true) c.requires within
    (c.in-Some.ensures.lookup.1 ∙ ap (λ (l : List Sums). get_or l (c.args.track - 1) c.in-Some.sums.now) c.as_slice.ensures)

pub returns-in-None : goal.returns-in-None
returns-in-None c = λ toc blocks y within rows.
    let long = row_long toc y blocks c.args.rows.now c.loop-row.row-index c.row-item.result rows (omega arith) c.row-item.is in
    absurd (omega (arith, long, c.in-None.ensures.lookup.3, ap (λ (l : List Sums). length l) c.as_slice.ensures))

pub returns : goal.returns
returns c = λ toc blocks y within rows.
    let none : list_any (λ (row : V2Row). int_eq c.args.offset row.offset) (take c.loop-row.row-index c.args.rows.now) ≡ false =
    ap (λ d. list_any (λ (row : V2Row). int_eq d row.offset) (take c.loop-row.row-index c.args.rows.now)) (sym (to_z-of_z w32 c.args.offset c.ranges.offset)) ∙ c.loop-row.invariant in
    v2_missing toc y blocks c.args.rows.now c.loop-row.row-index c.args.track c.args.offset rows c.loop-row-test.false none
