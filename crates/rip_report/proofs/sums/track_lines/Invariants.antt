use Rattle.std.proofs.Common.{◌≡◌, take, string_bytes}
use Rattle.rip_report.specs.Sums.{track_lines}
use Rattle.rip_report.proofs.sums.track_lines.Given as goal

abbrev pub invariant-loop-i : goal.invariant-loop-i
invariant-loop-i l = string_bytes l.text ≡ track_lines 1 (take l.i l.sums)
