use Rattle.std.proofs.Common.{◌≡◌, ◌++◌}
use Rattle.disc_ids.specs.Texts.{later_starts}
use Rattle.disc_ids.proofs.texts.add_later_starts.Given as goal

abbrev pub invariant-loop-i : goal.invariant-loop-i
invariant-loop-i l = l.text.items ≡ l.initial.text.items ++ later_starts l.layout.starts l.i
