use Rattle.std.proofs.Common.{◌≡◌, ◌∙◌, ◌<◌, [], get_or, length, rules, arith}
use Rattle.std.proofs.lemmas.List.{get_or_read}
use Rattle.rip_outside.proofs.ReadingLaws.{reads_twice}
use Rattle.engine_outputs.proofs.FreeLaws.{unheld_next}
use Rattle.engine_outputs.proofs.checking.check_unheld.Goals as goal

pub returns-in_err-check_free-clause-only : goal.returns-in_err-check_free-clause-only
returns-in_err-check_free-clause-only g c = reads_twice _ _ _ _ c.loop-i.invariant.only c.check_free.ensures.only

pub loop-i-preserved : goal.loop-i-preserved
loop-i-preserved g c =
    let h0 = g.S.Shelf.held c.args.shelf.now in
    let outs = c.args.outs.now in
    let i = c.loop-i.i in
    let below : i < length outs = omega (arith, c.loop-i-test.true, c.loop-i.auto.i-end) in
    let out = c.as_str.result.now in
    let is : out ≡ get_or outs i [] = c.as_str.ensures ∙ get_or_read outs i c.index-outs-i.result below c.index-outs-i.is [] in
    record {
      held = unheld_next h0 outs i out c.check_free.result c.in_ok-check_free.field-0 below is (search rules) c.loop-i.invariant.held (rw c.loop-i.invariant.only.same at c.check_free.ensures.answer);
      only = reads_twice _ _ _ _ c.loop-i.invariant.only c.check_free.ensures.only;
      taken = c.check_free.ensures.taken ∙ c.loop-i.invariant.taken;
    }
