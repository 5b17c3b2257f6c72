-- What `verify` comes to.
use Rattle.std.specs.Prelude.{◌≡◌, ◌==◌, ℕ, List, Option, ℤ, if◌then◌else◌}
use Rattle.rip_outside.specs.Files.{Files}
use Rattle.column_map.specs.declared.candidate.Candidate.{Candidate}
use Rattle.engine_steps.specs.Steps.{compared}
use Rattle.engine_search.specs.Picking.{Picks}
use Rattle.rip_report.specs.Texts.{verified_text}
use Rattle.rip_report.specs.declared.status.Status.TheVariants.{Done, Mendable}
use Rattle.engine_steps.specs.Outcome.{Outcome, refused, answered, Then, ThenOf}

-- a rip that is near a record has wrong words, or none
abbrev pub judged : Candidate → Outcome
judged at = if at.errors == 0 then answered Done (verified_text at) else refused (Mendable at.offset at.errors at.columns)

-- `verify INPUT REC` tells whether the rip is near the record, at the given offset or at the only one, and its wrong words.
abbrev pub IsVerifyOutcome : List ℕ → List ℕ → Option ℤ → Files → Outcome → Type 0
IsVerifyOutcome input rec offset files =
    Then (compared input rec files) (λ found.
    ThenOf (Picks offset found.0) (λ at.
    λ outcome. outcome ≡ judged at))
