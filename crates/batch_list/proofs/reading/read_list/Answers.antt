use Rattle.std.proofs.Common.{◌∙◌, sym}
use Rattle.std.proofs.lemmas.Bool.{false≢true}
use Rattle.batch_list.proofs.ReadingLaws.{document_read, no_document}
use Rattle.batch_list.proofs.ListLaws.{few_are_listed, commands_are_listed, length_is_unread}
use Rattle.batch_list.proofs.reading.read_list.Goals as goal

pub returns-in-Ok-clause-answer : goal.returns-in-Ok-clause-answer
returns-in-Ok-clause-answer c =
    let read = c.in-Ok.ensures.ok in
    rw (document_read c.args.bytes.now _ read.0 read.1, ← c.discs_in.ensures) c.read_discs.ensures

pub returns-in-Ok-clause-most : goal.returns-in-Ok-clause-most
returns-in-Ok-clause-most c = few_are_listed c.read_discs.result c.args.bytes.now (returns-in-Ok-clause-answer c)

pub returns-in-Ok-clause-commands : goal.returns-in-Ok-clause-commands
returns-in-Ok-clause-commands c = commands_are_listed c.read_discs.result c.args.bytes.now (returns-in-Ok-clause-answer c)

pub returns-in-Ok-clause-never_too_long : goal.returns-in-Ok-clause-never_too_long
returns-in-Ok-clause-never_too_long c = length_is_unread c.read_discs.result c.args.bytes.now (returns-in-Ok-clause-answer c)

pub returns-else-is_memory-clause-answer : goal.returns-else-is_memory-clause-answer
returns-else-is_memory-clause-answer c = rw c.refused.ensures (no_document c.args.bytes.now (c.in-Err.ensures.refused (λ memory. false≢true (sym c.if-is_memory.false ∙ c.is_memory.ensures.1 memory))))
