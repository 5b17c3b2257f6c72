use Rattle.rip_words.specs.Command.{command_reading, texts}
use Rattle.rip_commands.proofs.RanLaws.{may_run}
use Rattle.rip_commands.proofs.tell_words.Goals as goal

pub tell_asked-requires : goal.tell_asked-requires
tell_asked-requires g c = may_run c.read_command.result c.read_command.ensures.offsets c.read_command.ensures.trials c.read_command.ensures.names

pub returns : goal.returns
returns g c = c.tell_asked.ensures (command_reading (texts c.args.words.now)) c.read_command.ensures.value
