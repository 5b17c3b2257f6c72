use Rattle.std.proofs.Common.{◌≡◌, ◌+◌, drop}
use Rattle.disc_toc.specs.Joined.{broken_file}
use Rattle.disc_toc.proofs.joined.broken_file.Given as goal

abbrev pub invariant-loop-i : goal.invariant-loop-i
invariant-loop-i l = broken_file 1 l.words ≡ broken_file (l.i + 1) (drop l.i l.words)
