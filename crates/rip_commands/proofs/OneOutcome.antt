-- The words and the files have one outcome.
use Rattle.std.proofs.Common.{◌≡◌, ◌∙◌, ℕ, List, [], ◌∷◌, length, Result, Ok, Err, sym, ap}
use Rattle.rip_outside.specs.Files.{Files}
use Rattle.wav_frames.specs.Wav.{wav_bytes}
use Rattle.engine_search.proofs.AgreementLaws.{one_agreeing}
use Rattle.parity_store.specs.Naming.{record_name_of}
use Rattle.rip_words.specs.declared.Command.{Command}
use Rattle.rip_words.specs.declared.Command.TheVariants.{Register, Verify, Offsets, Repair, Upgrade, MatchSums, Sums, Trial, Split, Join, ListStore, CheckStore, MergeStores}
use Rattle.rip_report.specs.Texts.{written_text}
use Rattle.rip_report.specs.declared.status.Status.TheVariants.{Done}
use Rattle.engine_steps.specs.Steps.{compared, free, measured, opened}
use Rattle.engine_search.specs.Picking.{Picks}
use Rattle.engine_steps.specs.Outcome.{Outcome, answered, output, written}
use Rattle.rip_commands.specs.Outcomes.{IsOutcomeOf}
use Rattle.cmd_offsets.specs.OffsetsOutcome.{listed}
use Rattle.engine_search.proofs.PickLaws.{picked_offset, picks_one, mended_once}
use Rattle.engine_steps.proofs.ComparedLaws.{compared_range, few_words}
use Rattle.track_split.specs.Tracks.{join_names, split_names}
use Rattle.cmd_trial.proofs.TrialTextLaws.{one_text}
use Rattle.cmd_upgrade.proofs.UpgradeLaws.{upgrade_once}
use Rattle.cmd_match.proofs.MatchedLaws.{match_once}
use Rattle.engine_steps.proofs.OutcomeLaws.{then_one, then_of_one}

-- The words and the files have one outcome.
pub one_outcome : (read : Result Command ℕ) (files : Files) (a b : Outcome) → IsOutcomeOf read files a → IsOutcomeOf read files b → a ≡ b
one_outcome (Err word) files a b is also = is ∙ sym also
one_outcome (Ok (Register input rec npar)) files a b is also =
    then_one (measured input files) _ a b (λ rip _. then_one (free (record_name_of rec rip.toc ∷ []) rip.names files) _ a b (λ _ _ is also. is ∙ sym also)) is also
one_outcome (Ok (Verify input rec offset)) files a b is also =
    then_one (compared input rec files) _ a b
    (λ both found.
    let known = both.0 in
    then_of_one (Picks offset known) _ a b (picks_one known (few_words known (compared_range input rec files known both.1 found)) offset) (λ at _ is also. is ∙ sym also))
    is also
one_outcome (Ok (Offsets input rec)) files a b is also =
    then_one (compared input rec files) _ a b
    (λ both found is also.
    let known = both.0 in
    is.2 ∙ ap listed
    (one_agreeing known is.0 also.0 (few_words known (compared_range input rec files known both.1 found)) is.1 also.1)
    ∙ sym also.2)
    is also
one_outcome (Ok (Repair input rec to offset)) files a b is also =
    then_one (compared input rec files) _ a b
    (λ both found.
    let known = both.0 in
    let small = few_words known (compared_range input rec files known both.1 found) in
    then_one (free (to ∷ []) both.1 files) _ a b (λ _ _. then_of_one (Picks offset known) _ a b (picks_one known small offset)
    (λ at picks is also. is.2 ∙ ap (λ (mended : List ℕ). written (written_text at to) (output to (wav_bytes mended) ∷ []))
    (mended_once known small at.offset is.0 also.0 (picked_offset offset known at picks) is.1 also.1) ∙ sym also.2)))
    is also
one_outcome (Ok (Upgrade input rec)) files a b is also = upgrade_once input rec files a b is also
one_outcome (Ok (MatchSums input resp)) files a b is also = match_once input resp files a b is also
one_outcome (Ok (Sums input)) files a b is also = then_one (opened input files) _ a b (λ _ _ is also. is ∙ sym also) is also
one_outcome (Ok (Split input folder)) files a b is also =
    then_one (opened input files) _ a b (λ rip _. then_one (free (split_names folder (length rip.toc.starts)) rip.names files) _ a b (λ _ _ is also. is ∙ sym also)) is also
one_outcome (Ok (Join input to)) files a b is also =
    then_one (opened input files) _ a b (λ rip _. then_one (free (join_names to) rip.names files) _ a b (λ _ _ is also. is ∙ sym also)) is also
one_outcome (Ok (ListStore folder)) files a b is also = is ∙ sym also
one_outcome (Ok (CheckStore folder)) files a b is also = is ∙ sym also
one_outcome (Ok (MergeStores from to)) files a b is also = is ∙ sym also
one_outcome (Ok (Trial sectors seed shift hits)) files a b is also = is.1.2 ∙ ap (answered Done) (one_text sectors seed shift hits is.0 is.1.0 also.1.0 is.1.1 also.1.1) ∙ sym also.1.2
