-- The text of a report.
use Rattle.std.specs.Prelude.{◌≡◌, ℕ, List, length, ⊤}
use Rattle.rip_report.specs.declared.report.Report.{Report}
use Rattle.rip_report.specs.declared.report.Report.TheVariants.{Registered, Verified, Mendable, Offsets, Written, Upgraded, SumsOf, Matched, TrialOf, Refusal, SplitInto, Joined}
use Rattle.rip_report.specs.declared.status.Status.{Status}
use Rattle.rip_report.specs.declared.status.Status.TheVariants.{Done, BadRecords, BatchFailed, Mendable as MendableStatus, SinkFault, WantOfMemory}
use Rattle.disc_toc.specs.Toc.{toc_of}
use Rattle.rip_report.specs.Matches.{matches_text}
use Rattle.rip_report.specs.Sums.{sums_text}
use Rattle.rip_report.specs.Trial.{trial_lines}
use Rattle.rip_report.specs.Texts.{joined_line, mendable_text, offsets_text, refusal_line, registered_line, split_line, upgraded_text, verified_text, written_text}

-- a status that is told as a refusal: four have texts of their own, and two are ends at which nothing is printed
abbrev pub IsRefusal : Status → Type 0
IsRefusal Done = ⊥
IsRefusal (MendableStatus offset errors columns) = ⊥
IsRefusal (BadRecords bad) = ⊥
IsRefusal (BatchFailed failed) = ⊥
IsRefusal SinkFault = ⊥
IsRefusal WantOfMemory = ⊥
IsRefusal _ = ⊤

-- what may be reported: sums that are one pair for each track, and refusals
abbrev pub IsReported : Report → Type 0
IsReported (SumsOf layout sums) = length sums ≡ length layout.starts
IsReported (Refusal status) = IsRefusal status
IsReported _ = ⊤

-- the lines of a report
abbrev pub report_text : Report → List ℕ
report_text (Registered name sectors npar) = registered_line name sectors npar
report_text (Verified at) = verified_text at
report_text (Mendable at) = mendable_text at
report_text (Offsets list) = offsets_text list
report_text (Written at name) = written_text at name
report_text (Upgraded at name) = upgraded_text at name
report_text (SplitInto folder tracks) = split_line folder tracks
report_text (Joined name sectors) = joined_line name sectors
report_text (SumsOf layout sums) = sums_text (toc_of layout) sums
report_text (Matched list) = matches_text list
report_text (TrialOf sectors seed shift hits result) = trial_lines sectors seed shift hits result
report_text (Refusal status) = refusal_line status
