-- What `split` comes to.
use Rattle.std.specs.Prelude.{◌≡◌, ℕ, List, length}
use Rattle.rip_outside.specs.Files.{Files}
use Rattle.rip_inputs.specs.Opening.{Opened}
use Rattle.track_split.specs.Tracks.{split_names, split_outputs}
use Rattle.rip_report.specs.Texts.{split_line}
use Rattle.engine_steps.specs.Outcome.{Outcome, Then, written}
use Rattle.engine_steps.specs.Steps.{free, opened}

-- a rip's tracks are written in this folder, and then their sheet
abbrev pub split_in : List ℕ → Opened → Outcome
split_in folder rip = written (split_line folder (length rip.toc.starts)) (split_outputs folder rip.toc rip.words)

-- `split INPUT FOLDER` writes each track of the rip as a file of its own, and then their sheet, where no name of them is taken.
abbrev pub IsSplitOutcome : List ℕ → List ℕ → Files → Outcome → Type 0
IsSplitOutcome input folder files =
    Then (opened input files) (λ rip.
    Then (free (split_names folder (length rip.toc.starts)) rip.names files) (λ _ outcome. outcome ≡ split_in folder rip))
