use Rattle.std.proofs.Common.{◌≡◌, false, take}
use Rattle.std.specs.List.{list_any}
use Rattle.rip_words.specs.FileNames.{breaks_quotes}
use Rattle.rip_words.proofs.naming.is_quotable.Given as goal

abbrev pub invariant-loop-byte : goal.invariant-loop-byte
invariant-loop-byte l = list_any breaks_quotes (take l.byte-index l.name) ≡ false
