-- What `register` comes to.
use Rattle.std.specs.Prelude.{◌≡◌, ℕ, List, [], ◌∷◌}
use Rattle.rip_outside.specs.Files.{Files}
use Rattle.parity_store.specs.Naming.{record_name_of}
use Rattle.rip_inputs.specs.Opening.{Opened}
use Rattle.engine_steps.specs.Steps.{free, measured}
use Rattle.rip_report.specs.Texts.{registered_line}
use Rattle.engine_steps.specs.Outcome.{Outcome, written, output, Then}
use Rattle.engine_words.specs.Records.{record_of}

-- the record is written under this name
abbrev pub registered : List ℕ → ℕ → Opened → Outcome
registered name count rip = written (registered_line name rip.toc.sectors count) (output name (record_of count rip.toc rip.words) ∷ [])

-- `register INPUT REC` stores the record of the rip under the name REC, or by its key in the folder REC, with `count` parity words
-- for each column.
abbrev pub IsRegisterOutcome : List ℕ → List ℕ → ℕ → Files → Outcome → Type 0
IsRegisterOutcome input rec count files =
    Then (measured input files) (λ rip.
    Then (free (record_name_of rec rip.toc ∷ []) rip.names files) (λ _.
    λ outcome. outcome ≡ registered (record_name_of rec rip.toc) count rip))
