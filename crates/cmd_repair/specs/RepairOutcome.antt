-- What `repair` comes to.
use Rattle.std.specs.Prelude.{◌≡◌, ℕ, List, [], ◌∷◌, Result, Ok, Err, Option, ℤ}
use Rattle.rip_outside.specs.Files.{Files}
use Rattle.wav_frames.specs.Wav.{wav_bytes}
use Rattle.column_map.specs.declared.candidate.Candidate.{Candidate}
use Rattle.engine_steps.specs.Steps.{Known, compared, free}
use Rattle.engine_search.specs.Picking.{AreMended, Picks}
use Rattle.rip_report.specs.Texts.{written_text}
use Rattle.rip_report.specs.declared.status.Status.TheVariants.{Done}
use Rattle.engine_steps.specs.declared.steps.Answer.{Answer}
use Rattle.engine_steps.specs.declared.steps.Stop.{Stop}
use Rattle.engine_steps.specs.Outcome.{Outcome, written, output, Then, ThenOf}

-- the mended rip is written under the name OUT
abbrev pub IsWrittenOutcome : List ℕ → Known → Candidate → Outcome → Type 0
IsWrittenOutcome to known at outcome =
    (mended : List ℕ) × AreMended known at.offset mended × (outcome ≡ written (written_text at to) (output to (wav_bytes mended) ∷ []))

-- `repair INPUT REC OUT` writes the rip, mended by the record, under the name OUT: at the given offset, or at the only one.
abbrev pub IsRepairOutcome : List ℕ → List ℕ → List ℕ → Option ℤ → Files → Outcome → Type 0
IsRepairOutcome input rec to offset files =
    Then (compared input rec files) (λ found.
    Then (free (to ∷ []) found.1 files) (λ _.
    ThenOf (Picks offset found.0) (λ at.
    IsWrittenOutcome to found.0 at)))

-- the answer that is made of what a mending tells
abbrev pub answer_told : Result (Candidate × List ℕ) Stop → Result Answer Stop
answer_told (Ok told) = Ok record { status = Done; text = told.1 }
answer_told (Err stop) = Err stop
