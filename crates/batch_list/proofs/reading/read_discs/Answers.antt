use Rattle.std.proofs.Common.{◌<◌, ◌≢◌, ◌∙◌, ◌+◌, length, arith, sym}
use Rattle.std.proofs.lemmas.Bool.{eqb-false, eqb-true}
use Rattle.std.proofs.lemmas.Result.{err_from_is_err_and}
use Rattle.batch_list.proofs.ReadingLaws.{disc_left, fail_of_disc, no_discs, none_left, some_discs, too_many}
use Rattle.batch_list.proofs.reading.read_discs.Goals as goal

pub returns-then-is_empty : goal.returns-then-is_empty
returns-then-is_empty c = rw c.refused.ensures (no_discs c.args.discs.now (eqb-true _ 0 (sym c.if-is_empty.ensures)))

pub returns-then-discs-gt-MOST_DISCS : goal.returns-then-discs-gt-MOST_DISCS
returns-then-discs-gt-MOST_DISCS c = rw c.refused-then-discs-gt-MOST_DISCS.ensures (too_many c.args.discs.now (omega arith))

pub returns-in_err-read_disc : goal.returns-in_err-read_disc
returns-in_err-read_disc c =
    let l = c.loop-index in
    let discs = c.args.discs.now in
    let some : 0 < length discs = omega arith in
    let fail = err_from_is_err_and c.from_residual-in_err-read_disc.result c.from_residual-in_err-read_disc.ensures.1 in
    let next = disc_left discs l.index (l.index + 1) c.index-discs-index.result l.lists.items (omega arith) c.index-discs-index.is in
    rw (fail.1, fail.2) (fail_of_disc c.in_err-read_disc.field-0.0 (l.index + 1) _ _ l.lists.items _ c.in_err-read_disc.ensures (some_discs discs some (omega arith) ∙ l.invariant ∙ next))

pub returns : goal.returns
returns c =
    let l = c.loop-index in
    let discs = c.args.discs.now in
    let filled : length discs ≢ 0 = eqb-false _ 0 (sym c.if-is_empty.ensures) in
    let some : 0 < length discs = omega arith in
    rw c.of.ensures (some_discs discs some (omega arith) ∙ l.invariant ∙ none_left discs l.index (l.index + 1) l.lists.items (omega arith))
