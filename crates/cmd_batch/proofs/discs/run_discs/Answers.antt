use Rattle.std.proofs.Common.{◌≡◌, ◌∙◌, ℕ, ◌≤◌, Bool, true, false, cond, length, refl, ap, arith, subst}
use Rattle.std.specs.Prelude.{not}
use Rattle.std.specs.Int.{from_bool as bool_byte}
use Rattle.std.proofs.lemmas.List.{get_or_read}
use Rattle.rip_commands.specs.Seen.{seen}
use Rattle.cmd_batch.specs.BatchOutcome.{is_done}
use Rattle.cmd_batch.proofs.SoFar.{SoFar, all_ran, next_ended, next_went, none_ran}
use Rattle.cmd_batch.proofs.discs.run_discs.Goals as goal

pub loop-index-init : goal.loop-index-init
loop-index-init g c = record {
  so_far = none_ran c.args.discs.now (seen g.F.Shelf g.K.Sink c.args.files.now c.args.out.now) (g.F.Shelf.crashes c.args.files.now);
  few = omega arith;
}

-- a disc that wasn't done counts as one
counts : (done : Bool) → bool_byte (not done) ≡ cond done 0 1
counts true = refl
counts false = refl

at_most_one : (done : Bool) → cond done 0 1 ≤ 1
at_most_one true = omega arith
at_most_one false = omega arith

pub loop-index-preserved : goal.loop-index-preserved
loop-index-preserved g c =
    let tells = g.met.F.Shelf.tells_held in
    let crashes = g.F.Shelf.crashes in
    let l = c.loop-index in
    let discs = c.args.discs.now in
    let words = c.index-discs-index.result in
    let here = get_or_read discs l.index words c.loop-index-test.true c.index-discs-index.is words in
    let ran = c.in-Ok.ensures in
    let failed : c.from-failed.result ≡ cond (is_done ran.0.status) 0 1 = c.from-failed.ensures ∙ counts c.in-Ok.done ∙ ap (λ (b : Bool). cond b 0 1) ran.4 in
    record {
      so_far = rw failed (next_went discs (seen g.F.Shelf g.K.Sink c.args.files.now c.args.out.now) (seen g.F.Shelf g.K.Sink l.files l.out) (crashes c.args.files.now) (crashes l.files) (tells c.args.files.now) (tells l.files) l.index l.failed l.invariant.so_far words c.loop-index-test.true here
          (seen g.F.Shelf g.K.Sink c.run_disc.new.files c.run_disc.new.out) (crashes c.run_disc.new.files) (tells c.run_disc.new.files) ran.0 ran.1 ran.3 ran.2);
      few = omega (arith, l.invariant.few, failed, at_most_one (is_done ran.0.status));
    }

pub returns-in-Err : goal.returns-in-Err
returns-in-Err g c =
    let tells = g.met.F.Shelf.tells_held in
    let crashes = g.F.Shelf.crashes in
    let l = c.loop-index in
    let discs = c.args.discs.now in
    let words = c.index-discs-index.result in
    let here = get_or_read discs l.index words c.loop-index-test.true c.index-discs-index.is words in
    let ran = c.in-Err.ensures in
    next_ended discs (seen g.F.Shelf g.K.Sink c.args.files.now c.args.out.now) (seen g.F.Shelf g.K.Sink l.files l.out) (crashes c.args.files.now) (crashes l.files) (tells c.args.files.now) (tells l.files) l.index l.failed l.invariant.so_far words c.loop-index-test.true here
    (seen g.F.Shelf g.K.Sink c.run_disc.new.files c.run_disc.new.out) (crashes c.run_disc.new.files) (tells c.run_disc.new.files) ran.0 c.in-Err.status ran.1 ran.2

pub returns : goal.returns
returns g c =
    let l = c.loop-index in
    let discs = c.args.discs.now in
    let before = seen g.F.Shelf g.K.Sink c.args.files.now c.args.out.now in
    let mid = seen g.F.Shelf g.K.Sink l.files l.out in
    let end : l.index ≡ length discs = omega (arith, c.loop-index-test.false, l.auto.index-end) in
    all_ran discs before mid (seen g.F.Shelf g.K.Sink l.files c.put_last.new.out) (g.F.Shelf.crashes c.args.files.now) (g.F.Shelf.crashes l.files) l.failed c.put_last.result
    (subst (λ (n : ℕ). SoFar discs before mid (g.F.Shelf.crashes c.args.files.now) (g.F.Shelf.crashes l.files) n l.failed) end l.invariant.so_far) refl c.put_last.ensures
