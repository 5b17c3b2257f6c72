use Rattle.std.proofs.Common.{Ok, ap}
use Rattle.rip_commands.specs.Look.{look}
use Rattle.rip_commands.proofs.RanLaws.{answered_came, ran_of, no_file_of}
use Rattle.engine_steps.specs.Steps.{ComesToEnd}
use Rattle.rip_commands.specs.Outcomes.{IsOutcomeOf}
use Rattle.engine_steps.proofs.CrashingLaws.{safe_when}
use Rattle.rip_commands.proofs.tell.Goals as goal

pub returns-clause-ran : goal.returns-clause-ran
returns-clause-ran g c = ran_of (Ok c.args.command) (look g.F.Shelf c.args.shelf.now) (look g.F.Shelf c.perform-came.new.shelf) c.perform-came.result c.told_of.result
    (record { leaves = c.perform-came.ensures.leaves; cause = c.perform-came.ensures.cause; reads = c.perform-came.ensures.reads; taken = c.perform-came.ensures.taken; later = c.perform-came.ensures.later; trial = λ trial. ap (look g.F.Shelf) (c.perform-came.ensures.untouched trial) }) c.told_of.ensures

pub returns-clause-crashes : goal.returns-clause-crashes
returns-clause-crashes g c = safe_when (IsOutcomeOf (Ok c.args.command)) (ComesToEnd c.perform-came.result) _ _ _ (answered_came c.perform-came.result c.told_of.result c.told_of.ensures) c.perform-came.ensures.crashes

pub returns-clause-no_file : goal.returns-clause-no_file
returns-clause-no_file g c = no_file_of (Ok c.args.command) (look g.F.Shelf c.args.shelf.now) (look g.F.Shelf c.perform-came.new.shelf) c.perform-came.result c.told_of.result c.perform-came.ensures.no_file c.told_of.ensures
