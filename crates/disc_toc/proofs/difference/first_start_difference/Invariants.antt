use Rattle.std.proofs.Common.{◌≡◌, ◌+◌, drop, find}
use Rattle.disc_toc.specs.Difference.{differs, starts_from}
use Rattle.disc_toc.proofs.difference.first_start_difference.Given as goal

abbrev pub invariant-loop-i : goal.invariant-loop-i
invariant-loop-i l = find differs (starts_from 1 l.rip l.kept) ≡ find differs (starts_from (l.i + 1) (drop l.i l.rip) (drop l.i l.kept))
