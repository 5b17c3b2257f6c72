use Rattle.std.proofs.Common.{◌≡◌, ◌++◌}
use Rattle.disc_toc.specs.Toc.{toc_of}
use Rattle.disc_ids.specs.Texts.{track_fields}
use Rattle.disc_ids.proofs.texts.add_fields.Given as goal

abbrev pub invariant-loop-i : goal.invariant-loop-i
invariant-loop-i l = l.text.items ≡ l.initial.text.items ++ track_fields (toc_of l.layout) l.i
