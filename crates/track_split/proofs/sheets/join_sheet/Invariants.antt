use Rattle.std.proofs.Common.{◌≡◌, ◌+◌, ◌++◌, drop}
use Rattle.disc_toc.specs.Toc.{toc_of}
use Rattle.track_split.specs.Sheets.{first_only, join_text, joined_lines, text_of_lines}
use Rattle.track_split.proofs.sheets.join_sheet.Given as goal

-- what was written, and the lines of the tracks that are left
abbrev pub invariant-loop-i : goal.invariant-loop-i
invariant-loop-i l = l.text.items ++ text_of_lines (joined_lines (l.i + 1) (first_only l.layout.pregap l.i) (drop l.i l.layout.starts)) ≡ join_text l.name (toc_of l.layout)
