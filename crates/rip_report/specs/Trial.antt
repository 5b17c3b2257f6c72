-- What `trial` prints.
use Rattle.std.specs.Prelude.{ℕ, ℤ, Bool, List, ◌++◌, codes, if◌then◌else◌}
use Rattle.std.specs.Fmt.{decimal}
use Rattle.rip_report.specs.declared.report.TrialResult.{TrialResult}
use Rattle.rip_report.specs.declared.report.TrialResult.TheVariants.{Mended, NoneNear, Several}
use Rattle.rip_report.specs.Texts.{line, line_of, offset_text, several_line}

-- what a trial was asked for
abbrev pub trial_line : ℕ → ℕ → ℤ → ℕ → List ℕ
trial_line sectors seed shift hits = line (codes "trial sectors " ++ decimal sectors ++ codes " seed " ++ decimal seed ++ codes " shift " ++ offset_text shift ++ codes " hits " ++ decimal hits)

-- whether the mended words are the disc's
abbrev pub same_line : Bool → List ℕ
same_line same = line (if same then codes "same yes" else codes "same no")

-- what it came to
abbrev pub trial_end : TrialResult → List ℕ
trial_end (Mended at same) = line_of at ++ same_line same
trial_end NoneNear = line (codes "none")
trial_end (Several first second) = several_line first second

abbrev pub trial_lines : ℕ → ℕ → ℤ → ℕ → TrialResult → List ℕ
trial_lines sectors seed shift hits result = trial_line sectors seed shift hits ++ trial_end result
