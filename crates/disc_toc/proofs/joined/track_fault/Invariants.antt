use Rattle.std.proofs.Common.{◌≡◌, ◌+◌, drop, None}
use Rattle.disc_toc.specs.Joined.{track_fault}
use Rattle.disc_toc.proofs.joined.track_fault.Given as goal

abbrev pub invariant-loop-i : goal.invariant-loop-i
invariant-loop-i l = track_fault l.words 1 None l.tracks ≡ track_fault l.words (l.i + 1) l.before (drop l.i l.tracks)
