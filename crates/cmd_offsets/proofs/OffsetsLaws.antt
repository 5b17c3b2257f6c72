-- What is printed of a list.
use Rattle.std.proofs.Common.{◌≡◌, ◌≤◌, List, [], ◌∷◌, length, refl, arith, ℤ}
use Rattle.rip_report.specs.declared.status.Status.TheVariants.{Done}
use Rattle.column_map.specs.declared.candidate.Candidate.{Candidate}
use Rattle.rip_report.specs.Texts.{offsets_text}
use Rattle.engine_steps.specs.Outcome.{answered}
use Rattle.cmd_offsets.specs.OffsetsOutcome.{listed}
use Rattle.offset_search.specs.Near.{HasOffset}

-- some candidates are listed
pub listed_some : (found : List Candidate) → 1 ≤ length found → listed found ≡ answered Done (offsets_text found)
listed_some [] some = absurd (omega arith)
listed_some (at ∷ rest) some = refl

-- a list that has an offset is printed
pub listed_has : (found : List Candidate) (d : ℤ) → HasOffset found d → listed found ≡ answered Done (offsets_text found)
listed_has [] d has = absurd (let below = has.1 in omega arith)
listed_has (at ∷ found) d has = refl
