use Rattle.std.proofs.Common.{sym}
use Rattle.batch_list.proofs.ReadingLaws.{elements_view}
use Rattle.batch_list.proofs.reading.discs_in.Goals as goal

pub returns-in-Some : goal.returns-in-Some
returns-in-Some c = rw (c.as_slice.ensures.value, ← c.in-Some.ensures) (sym (elements_view c.in-Some.discs.now.items))
