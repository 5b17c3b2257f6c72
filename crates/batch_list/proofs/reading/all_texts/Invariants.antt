use Rattle.std.proofs.Common.{◌≡◌, drop, map}
use Rattle.toml.specs.View.{view}
use Rattle.rip_words.specs.Command.{texts}
use Rattle.batch_list.specs.Reading.{all_texts}
use Rattle.batch_list.proofs.ReadingLaws.{texts_after}
use Rattle.batch_list.proofs.reading.all_texts.Given as goal

-- the texts so far stand before those of the elements that are left
abbrev pub invariant-loop-value : goal.invariant-loop-value
invariant-loop-value l = all_texts (map view l.values) ≡ texts_after (texts l.words.items) (all_texts (map view (drop l.value-index l.values)))
