use Rattle.rip_commands.specs.Seen.{seen}
use Rattle.cmd_batch.proofs.EndLaws.{decides, own_faults, takes, to_the_end}
use Rattle.cmd_batch.proofs.StopLaws.{survives}
use Rattle.cmd_batch.proofs.batch.Goals as goal

pub returns-clause-outcome : goal.returns-clause-outcome
returns-clause-outcome g c = decides c.args.list.now (seen g.F.Shelf g.K.Sink c.args.files.now c.args.out.now) (seen g.F.Shelf g.K.Sink c.run_list.new.files c.run_list.new.out) (g.F.Shelf.crashes c.args.files.now) (g.F.Shelf.crashes c.run_list.new.files) c.run_list.result c.run_list.ensures

pub returns-clause-own_faults : goal.returns-clause-own_faults
returns-clause-own_faults g c = own_faults c.args.list.now (seen g.F.Shelf g.K.Sink c.args.files.now c.args.out.now) (seen g.F.Shelf g.K.Sink c.run_list.new.files c.run_list.new.out) (g.F.Shelf.crashes c.args.files.now) (g.F.Shelf.crashes c.run_list.new.files) c.run_list.result c.run_list.ensures

pub returns-clause-to_the_end : goal.returns-clause-to_the_end
returns-clause-to_the_end g c = to_the_end c.args.list.now (seen g.F.Shelf g.K.Sink c.args.files.now c.args.out.now) (seen g.F.Shelf g.K.Sink c.run_list.new.files c.run_list.new.out) (g.F.Shelf.crashes c.args.files.now) (g.F.Shelf.crashes c.run_list.new.files) c.run_list.result c.run_list.ensures

pub returns-clause-bytes_taken : goal.returns-clause-bytes_taken
returns-clause-bytes_taken g c = takes c.args.list.now (seen g.F.Shelf g.K.Sink c.args.files.now c.args.out.now) (seen g.F.Shelf g.K.Sink c.run_list.new.files c.run_list.new.out) (g.F.Shelf.crashes c.args.files.now) (g.F.Shelf.crashes c.run_list.new.files) c.run_list.result c.run_list.ensures

pub returns-clause-survives : goal.returns-clause-survives
returns-clause-survives g c =
    let tells = g.met.F.Shelf.tells_held in
    survives c.args.list.now (seen g.F.Shelf g.K.Sink c.args.files.now c.args.out.now) (seen g.F.Shelf g.K.Sink c.run_list.new.files c.run_list.new.out) (g.F.Shelf.crashes c.args.files.now) (g.F.Shelf.crashes c.run_list.new.files) c.run_list.result
    (tells c.args.files.now) (tells c.run_list.new.files) c.run_list.ensures
