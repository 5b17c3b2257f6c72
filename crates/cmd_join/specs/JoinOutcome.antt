-- What `join` comes to.
use Rattle.std.specs.Prelude.{◌≡◌, ℕ, List}
use Rattle.rip_outside.specs.Files.{Files}
use Rattle.rip_inputs.specs.Opening.{Opened}
use Rattle.rip_words.specs.FileNames.{name_in_folder}
use Rattle.track_split.specs.Tracks.{join_names, join_outputs}
use Rattle.rip_report.specs.Texts.{joined_line}
use Rattle.engine_steps.specs.Outcome.{Outcome, Then, written}
use Rattle.engine_steps.specs.Steps.{free, opened}

-- a rip is written as one file of this name, and then its sheet
abbrev pub joined_as : List ℕ → Opened → Outcome
joined_as to rip = written (joined_line to rip.toc.sectors) (join_outputs to (name_in_folder to) rip.toc rip.words)

-- `join INPUT OUT` writes the rip as one file under the name OUT, and then its sheet, where no name of the two is taken.
abbrev pub IsJoinOutcome : List ℕ → List ℕ → Files → Outcome → Type 0
IsJoinOutcome input to files =
    Then (opened input files) (λ rip.
    Then (free (join_names to) rip.names files) (λ _ outcome. outcome ≡ joined_as to rip))
