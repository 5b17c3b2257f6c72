use Rattle.std.proofs.Common.{rules}
use Rattle.rip_memory.proofs.KeyLaws.{listed_inside}
use Rattle.rip_memory.proofs.memory_shelf.MemoryShelfFolder.list.Goals as goal

pub returns-clause-inside : goal.returns-clause-inside
returns-clause-inside c = listed_inside c.args.folder.now c.args.self.now.files c.map_err.result (search rules)
