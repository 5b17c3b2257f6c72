use Rattle.std.proofs.Common.{inl, inr, ℕ, List, refl, subst}
use Rattle.rip_commands.specs.Seen.{seen}
use Rattle.cmd_batch.specs.Batch.{DiscsRan}
use Rattle.cmd_batch.proofs.ListLaws.{none_for_want, stopped}
use Rattle.cmd_batch.proofs.StopLaws.{after_rests}
use Rattle.cmd_batch.proofs.run_list.Goals as goal

pub returns-in_default : goal.returns-in_default
returns-in_default g c = inl (none_for_want c.args.list.now (seen g.F.Shelf g.K.Sink c.args.files.now c.args.out.now) (g.F.Shelf.crashes c.args.files.now))

pub returns-in-Err : goal.returns-in-Err
returns-in-Err g c =
    let read = c.read_lists.ensures in
    inl (stopped c.args.list.now (seen g.F.Shelf g.K.Sink c.args.files.now c.args.out.now) (seen g.F.Shelf g.K.Sink c.read_lists.new.shelf c.print.new.out)
    (g.F.Shelf.crashes c.args.files.now) (g.F.Shelf.crashes c.read_lists.new.shelf) c.told_of.result c.print.result
    c.in-Err.stop read.only.same read.only.crashes read.only.later c.in-Err.ensures.cause c.in-Err.ensures.answer c.in-Err.ensures.taken c.told_of.ensures c.print.ensures)

pub returns-in-Ok-read_lists : goal.returns-in-Ok-read_lists
returns-in-Ok-read_lists g c =
    let found = c.in-Ok-read_lists in
    let read = found.ensures in
    let start = seen g.F.Shelf g.K.Sink c.read_lists.new.shelf c.args.out.now in
    let after = seen g.F.Shelf g.K.Sink c.run_discs.new.files c.run_discs.new.out in
    let crashes = g.F.Shelf.crashes in
    let ran = subst (λ (discs : List (List (List ℕ))). DiscsRan discs start after (crashes c.read_lists.new.shelf) (crashes c.run_discs.new.files) c.run_discs.result) c.as_slice.ensures c.run_discs.ensures in
    inr record {
      discs = found.discs;
      read = read.answer;
      start = start;
      same = read.only.same;
      none_fell = read.only.later;
      taken = read.taken;
      unprinted = (refl, refl);
      ran = after_rests found.discs start after (crashes c.args.files.now) (crashes c.read_lists.new.shelf) (crashes c.run_discs.new.files) c.run_discs.result read.only.crashes ran;
    }
