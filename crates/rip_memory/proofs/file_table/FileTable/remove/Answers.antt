use Rattle.std.proofs.Common.{rules}
use Rattle.rip_memory.proofs.TableLaws.{table_cut}
use Rattle.rip_memory.proofs.file_table.FileTable.remove.Goals as goal

pub returns : goal.returns
returns c = rw (← c.self.view_is) (table_cut c.args.name.now c.self.inside.files c.remove.new.self (search rules))
