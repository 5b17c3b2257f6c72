use Rattle.std.proofs.Common.{◌≡◌, take, string_bytes}
use Rattle.std.specs.Prelude.{flat_map}
use Rattle.rip_report.specs.Matches.{match_line}
use Rattle.rip_report.proofs.matches.matches_lines.Given as goal

abbrev pub invariant-loop-found : goal.invariant-loop-found
invariant-loop-found l = string_bytes l.text ≡ flat_map match_line (take l.found-index l.list)
