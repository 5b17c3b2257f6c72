use Rattle.rip_commands.specs.Seen.{seen}
use Rattle.rip_words.specs.Command.{request_reading, texts}
use Rattle.rip_engine.proofs.RequestLaws.{batch_wanting, one_wanting}
use Rattle.rip_engine.proofs.run_request.Goals as goal

pub returns-in-Err-Oom-clause-one : goal.returns-in-Err-Oom-clause-one
returns-in-Err-Oom-clause-one g c = one_wanting (request_reading (texts c.args.words.now)) (seen g.F.Shelf g.K.Sink c.args.files.now c.args.out.now) (g.F.Shelf.crashes c.args.files.now)

pub returns-in-Err-Oom-clause-batch : goal.returns-in-Err-Oom-clause-batch
returns-in-Err-Oom-clause-batch g c = batch_wanting (request_reading (texts c.args.words.now)) (seen g.F.Shelf g.K.Sink c.args.files.now c.args.out.now) (g.F.Shelf.crashes c.args.files.now)
