use Rattle.batch_list.proofs.ReadingLaws.{elements_view}
use Rattle.batch_list.proofs.reading.disc_words.Goals as goal

pub returns-in-Some : goal.returns-in-Some
returns-in-Some c = rw (← c.in-Some.ensures, elements_view c.in-Some.array.now.items, ← c.as_slice.ensures.value) c.all_texts.ensures
