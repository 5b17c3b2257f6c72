use Rattle.std.proofs.Common.{◌≡◌, take, string_bytes}
use Rattle.rip_report.specs.Texts.{offsets_text}
use Rattle.rip_report.proofs.texts.offsets_lines.Given as goal

abbrev pub invariant-loop-at : goal.invariant-loop-at
invariant-loop-at l = string_bytes l.text ≡ offsets_text (take l.at-index l.found)
