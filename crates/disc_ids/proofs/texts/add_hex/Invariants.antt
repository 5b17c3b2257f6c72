use Rattle.std.proofs.Common.{◌≡◌, ◌++◌}
use Rattle.disc_ids.proofs.TextLaws.{digits_before}
use Rattle.disc_ids.proofs.texts.add_hex.Given as goal

abbrev pub invariant-loop-i : goal.invariant-loop-i
invariant-loop-i l = l.text.items ≡ l.initial.text.items ++ digits_before l.digits l.number l.i
