use Rattle.std.proofs.Common.{◌≡◌, ◌++◌}
use Rattle.disc_toc.specs.Toc.{toc_of}
use Rattle.track_split.specs.Sheets.{split_text, text_of_lines}
use Rattle.track_split.proofs.WritingLaws.{split_left}
use Rattle.track_split.proofs.sheets.split_sheet.Given as goal

-- what was written, and the lines of the tracks that are left
abbrev pub invariant-loop-i : goal.invariant-loop-i
invariant-loop-i l = l.text.items ++ text_of_lines (split_left l.layout.pregap l.i l.layout.starts) ≡ split_text (toc_of l.layout)
