use Rattle.std.proofs.Common.{◌≡◌, ◌+◌, ◌≤◌, length}
use Rattle.cue_sheet.specs.Lines.{lines_of, without_mark}
use Rattle.cue_sheet.specs.Reading.{nothing_read, lines_reading}
use Rattle.cue_sheet.specs.Progress.{state_of, IsSound}
use Rattle.cue_sheet.proofs.reading.read_cue.Given as goal

-- what is left reads on from here as the whole sheet does
abbrev pub invariant-loop-rest : goal.invariant-loop-rest
invariant-loop-rest l = record {
  reading : lines_reading 1 nothing_read (lines_of (without_mark l.bytes)) ≡ lines_reading (l.line + 1) (state_of l.progress) (lines_of l.rest);
  sound : IsSound (state_of l.progress);
  few : l.line + length l.rest ≤ 1048576;
}

abbrev pub decreases-loop-rest : goal.decreases-loop-rest
decreases-loop-rest l = length l.rest
