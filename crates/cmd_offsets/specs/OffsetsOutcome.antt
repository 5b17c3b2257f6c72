-- What `offsets` comes to.
use Rattle.std.specs.Prelude.{◌≡◌, ℕ, List, [], ◌∷◌}
use Rattle.rip_outside.specs.Files.{Files}
use Rattle.column_map.specs.declared.candidate.Candidate.{Candidate}
use Rattle.engine_steps.specs.Steps.{Known, compared}
use Rattle.engine_search.specs.Agreement.{AreAgreeing}
use Rattle.rip_report.specs.Texts.{offsets_text}
use Rattle.rip_report.specs.declared.status.Status.TheVariants.{Done, NoCandidate}
use Rattle.engine_steps.specs.Outcome.{Outcome, refused, answered, Then}

-- what is printed of the candidates
abbrev pub listed : List Candidate → Outcome
listed [] = refused NoCandidate
listed (at ∷ rest) = answered Done (offsets_text (at ∷ rest))

-- all candidates are listed
abbrev pub IsListedOutcome : Known → Outcome → Type 0
IsListedOutcome known outcome = (found : List Candidate) × AreAgreeing known found × (outcome ≡ listed found)

-- `offsets INPUT REC` lists all offsets at which the rip is near the record.
abbrev pub IsOffsetsOutcome : List ℕ → List ℕ → Files → Outcome → Type 0
IsOffsetsOutcome input rec files = Then (compared input rec files) (λ found. IsListedOutcome found.0)
