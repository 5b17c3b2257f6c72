-- What a trial tells: a disc that a seed makes, and what its record does for a late and damaged rip of it.
use Rattle.std.specs.Prelude.{◌≡◌, ℕ, ◌*◌, ◌↔◌, IsTrue, List, Result, Ok, Err, None, Some, ℤ}
use Rattle.column_map.specs.Columns.{per_column, table_of_image}
use Rattle.image_mender.specs.Seal.{seal_of_table}
use Rattle.column_map.specs.declared.candidate.Candidate.{Candidate}
use Rattle.syndrome_stream.specs.Parity.{image_parity}
use Rattle.trial_disc.specs.Generated.{generated}
use Rattle.trial_disc.specs.Damaged.{damaged, late}
use Rattle.trial_disc.specs.Compared.{SameCovered}
use Rattle.rip_report.specs.Trial.{trial_lines}
use Rattle.rip_report.specs.declared.report.TrialResult.{TrialResult}
use Rattle.rip_report.specs.declared.report.TrialResult.TheVariants.{Mended, NoneNear, Several as TrialSeveral}
use Rattle.rip_report.specs.declared.status.Status.{Status}
use Rattle.rip_report.specs.declared.status.Status.TheVariants.{NoCandidate, Several, Done}
use Rattle.engine_steps.specs.Steps.{Known, known_from}
use Rattle.engine_search.specs.Picking.{AreMended, Picks}
use Rattle.rip_words.specs.Command.{IsTrial}
use Rattle.engine_steps.specs.Outcome.{Outcome, answered}

-- the words of the disc: 1,176 for each sector
unfoldable pub trial_disc_words : ℕ → ℕ → List ℕ
trial_disc_words seed sectors = generated seed (1176 * sectors)

-- the words of its rip, which is late, and then damaged by hits
unfoldable pub trial_rip_words : ℕ → ℕ → ℤ → ℕ → List ℕ
trial_rip_words sectors seed shift hits = damaged (per_column sectors) shift hits (late (trial_disc_words seed sectors) shift)

-- a rip with these words, and the record of a disc with these, which has 8 parity words for each column and a seal
abbrev pub known_rip : ℕ → List ℕ → List ℕ → Known
known_rip sectors disc rip =
    known_from sectors rip 8 (image_parity 8 (per_column sectors) disc) (Some (seal_of_table (per_column sectors) (table_of_image disc)))

abbrev pub trial_known : ℕ → ℕ → ℤ → ℕ → Known
trial_known sectors seed shift hits = known_rip sectors (trial_disc_words seed sectors) (trial_rip_words sectors seed shift hits)

-- What is told of an offset that was picked: it is, and whether the rip that is mended there has the disc's words where columns have
-- words. Where none was picked it is told that there is none, or the first two of several.
abbrev pub IsTrialResult : List ℕ → Known → Result Candidate Status → TrialResult → Type 0
IsTrialResult disc known (Ok picked) (Mended at same) =
    (at ≡ picked) × ((mended : List ℕ) × AreMended known picked.offset mended × (IsTrue same ↔ SameCovered (per_column known.sectors) picked.offset mended disc))
IsTrialResult disc known (Err NoCandidate) NoneNear = Unit {0}
IsTrialResult disc known (Err (Several a b)) (TrialSeveral first second) = (first ≡ a) × (second ≡ b)
IsTrialResult disc known picked result = ⊥

-- what is told of a rip and the record of a disc, where no offset is given
abbrev pub IsTrialEnd : List ℕ → Known → TrialResult → Type 0
IsTrialEnd disc known result = (picked : Result Candidate Status) × Picks None known picked × IsTrialResult disc known picked result

-- the lines of a trial
abbrev pub IsTrialText : ℕ → ℕ → ℤ → ℕ → List ℕ → Type 0
IsTrialText sectors seed shift hits text =
    (result : TrialResult) × IsTrialEnd (trial_disc_words seed sectors) (trial_known sectors seed shift hits) result × (text ≡ trial_lines sectors seed shift hits result)

-- `trial SECTORS SEED SHIFT HITS`, whose numbers are in range, tells what becomes of a rip that it makes.
abbrev pub IsTrialOutcome : ℕ → ℕ → ℤ → ℕ → Outcome → Type 0
IsTrialOutcome sectors seed shift hits outcome = IsTrial sectors shift hits × ((text : List ℕ) × IsTrialText sectors seed shift hits text × (outcome ≡ answered Done text))
