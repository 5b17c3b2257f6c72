-- What `repair` comes to, of a rip and a record that were compared.
use Rattle.std.proofs.Common.{◌≡◌, ℕ, ℤ, List, [], ◌∷◌, length, ◌*◌, Option, Result, Ok, IfSome, ◌∙◌, Err, sym, ap, subst}
use Rattle.std.specs.Prelude.{Ok}
use Rattle.rip_outside.specs.Files.{Files}
use Rattle.column_map.specs.Columns.{IsSectorCount}
use Rattle.column_map.specs.declared.candidate.Candidate.{Candidate}
use Rattle.column_map.specs.declared.candidate.Fix.{Fix}
use Rattle.image_mender.specs.Joined.{joined_words}
use Rattle.image_mender.specs.Patched.{patched}
use Rattle.wav_frames.specs.Wav.{wav_bytes}
use Rattle.rip_report.specs.Texts.{written_text}
use Rattle.engine_steps.specs.Steps.{Known, compared, free}
use Rattle.engine_search.specs.Picking.{Mends, Picks, AreMended, IsOffsetToMend}
use Rattle.engine_steps.specs.Outcome.{Outcome, output, written, Leaves, Then, ThenOf}
use Rattle.cmd_repair.specs.RepairOutcome.{IsRepairOutcome, IsWrittenOutcome}
use Rattle.engine_steps.specs.Comparing.{known_of}
use Rattle.engine_steps.specs.declared.comparing.Compared.{Compared}
use Rattle.engine_search.proofs.PickLaws.{fixes_mend, picked_offset, mended_is_picked, no_done}
use Rattle.rip_outside.proofs.FilesLaws.{if_told_both}
use Rattle.engine_steps.specs.declared.steps.Answer.{Answer}
use Rattle.engine_steps.specs.declared.steps.Stop.{Stop}
use Rattle.engine_steps.proofs.Leaving.{leaves_weaker}
use Rattle.rip_report.specs.declared.status.Status.{Status}
use Rattle.rip_report.specs.declared.status.Status.TheVariants.{Done}

pub repair_meets : (input rec to : List ℕ) (offset : Option ℤ) (both : Known × List (List ℕ)) (at : Candidate) (files : Files) (o : Outcome) → compared input rec files ≡ Ok both → free (to ∷ []) both.1 files ≡ Ok tt
    → Picks offset both.0 (Ok at) → IsWrittenOutcome to both.0 at o → IsRepairOutcome input rec to offset files o
repair_meets input rec to offset both at files o found is_free picks is = rw (found, is_free) (Ok at, picks, is)

pub written_meets : (found : Compared) (given : Option ℤ) (at : Candidate) (fixes : List Fix) (to : List ℕ) (files : Files) (o : Outcome) → IsSectorCount found.shape
    → length (joined_words found.image files) ≡ 1176 * found.shape → Picks given (known_of files found) (Ok at) → Mends (known_of files found) at fixes
    → o ≡ written (written_text at to) (output to (wav_bytes (patched fixes (joined_words found.image files))) ∷ []) → IsWrittenOutcome to (known_of files found) at o
written_meets found given at fixes to files o range long picks mends is =
    (patched fixes (joined_words found.image files), fixes_mend (known_of files found) at fixes range long (picked_offset given (known_of files found) at picks) mends, is)

-- the mended rip that was written
pub written_of : (h0 h : Option Files) (found : Compared) (given : Option ℤ) (at : Candidate) (fixes : List Fix) (to : List ℕ) (r : Result Answer Stop) → IsSectorCount found.shape
    → IfSome h0 (λ files. length (joined_words found.image files) ≡ 1176 * found.shape)
    → IfSome h0 (λ files. Picks given (known_of files found) (Ok at)) → IfSome h0 (λ files. Mends (known_of files found) at fixes)
    → IfSome h0 (λ files. Leaves (λ o. o ≡ written (written_text at to) (output to (wav_bytes (patched fixes (joined_words found.image files))) ∷ [])) files r h)
    → IfSome h0 (λ files. Leaves (IsWrittenOutcome to (known_of files found) at) files r h)
written_of h0 h found given at fixes to r range long picks mends left =
    if_told_both h0 (λ files. (length (joined_words found.image files) ≡ 1176 * found.shape) × Picks given (known_of files found) (Ok at)) (λ files. Mends (known_of files found) at fixes × Leaves (λ o. o ≡ written (written_text at to) (output to (wav_bytes (patched fixes (joined_words found.image files))) ∷ [])) files r h) _
    (λ files known done_so.
    let words = joined_words found.image files in
    let mended : AreMended (known_of files found) at.offset (patched fixes words) = fixes_mend (known_of files found) at fixes range known.0 (picked_offset given (known_of files found) at known.1) done_so.0 in
    leaves_weaker (λ o. o ≡ written (written_text at to) (output to (wav_bytes (patched fixes words)) ∷ [])) (IsWrittenOutcome to (known_of files found) at) files r h
    (λ o is. (patched fixes words, mended, is)) done_so.1)
    (if_told_both h0 _ _ _ (λ files a b. (a, b)) long picks) (if_told_both h0 _ _ _ (λ files a b. (a, b)) mends left)

module _ (input rec to : List ℕ) (offset : Option ℤ) (known : Known) (names : List (List ℕ)) (files : Files) (found : compared input rec files ≡ Ok (known, names)) where
  pub picked_outcome : (outcome : Outcome) → free (to ∷ []) names files ≡ Ok tt → IsRepairOutcome input rec to offset files outcome → ThenOf (Picks offset known) (λ at. IsWrittenOutcome to known at) outcome
  picked_outcome outcome freed is = let after : Then (free (to ∷ []) names files) (λ _. ThenOf (Picks offset known) (λ at. IsWrittenOutcome to known at)) outcome = rw found at is in rw freed at after

  -- where it's done, a candidate was picked
  pub done_is_written : (outcome : Outcome) → outcome.status ≡ Done → ThenOf (Picks offset known) (λ at. IsWrittenOutcome to known at) outcome
      → (at : Candidate) × Picks offset known (Ok at) × IsWrittenOutcome to known at outcome
  done_is_written outcome ended is = by is.0 is.1 is.2
    where
      by : (p : Result Candidate Status) → Picks offset known p → Then p (λ at. IsWrittenOutcome to known at) outcome → (at : Candidate) × Picks offset known (Ok at) × IsWrittenOutcome to known at outcome
      by (Ok at) picks then = (at, picks, then)
      by (Err status) picks then =
          let same : status ≡ Done = sym (ap (λ (o : Outcome). o.status) then) ∙ ended in
          absurd (no_done offset known (subst (λ (s : Status). Picks offset known (Err s)) same picks))

  -- where an offset is to be mended, it's done
  pub mended_is_done : (outcome : Outcome) (d : ℤ) → IsOffsetToMend offset known d → ThenOf (Picks offset known) (λ at. IsWrittenOutcome to known at) outcome → outcome.status ≡ Done
  mended_is_done outcome d mend is =
      let picked = mended_is_picked offset known d is.0 mend is.1 in
      let then : IsWrittenOutcome to known picked.0 outcome = rw picked.1 at is.2 in
      ap (λ (o : Outcome). o.status) then.2
