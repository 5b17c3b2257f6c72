-- What calls come to on a shelf that never fails.
use Rattle.std.proofs.Common.{◌≡◌, ◌∙◌, ◌*◌, ℕ, List, length, true, false, None, Some, Result, Ok, Err, refl, sym, ap, ap₂, subst, arith, ℤ}
use Rattle.std.specs.Prelude.{MatchResult, codes, is_ok}
use Rattle.rip_outside.specs.Files.{Files, after_put}
use Rattle.rip_outside.specs.Outputs.{part_of}
use Rattle.rip_outside.specs.declared.fault.ShelfCall.{ShelfCall}
use Rattle.column_map.specs.Columns.{IsSectorCount, per_column, table_of_image}
use Rattle.column_map.specs.Image.{AreWords}
use Rattle.column_map.specs.declared.candidate.Candidate.{Candidate}
use Rattle.column_map.specs.declared.candidate.Fix.{Fix}
use Rattle.syndrome_stream.specs.Parity.{image_parity}
use Rattle.disc_toc.specs.Toc.{Toc}
use Rattle.disc_toc.specs.OneTrack.{one_track_of}
use Rattle.wav_frames.specs.Wav.{wav_bytes}
use Rattle.image_mender.specs.Patched.{patched}
use Rattle.image_mender.specs.Seal.{seal_of_table}
use Rattle.parity_store.specs.Record.{record_bytes_of}
use Rattle.rip_report.specs.declared.status.Status.{Status}
use Rattle.rip_report.specs.declared.report.TrialResult.{TrialResult}
use Rattle.trial_disc.specs.Generated.{generated}
use Rattle.trial_disc.specs.Damaged.{damaged, late}
use Rattle.engine_steps.specs.Steps.{Does, Known, ReadsWithCause, compared, opened}
use Rattle.engine_steps.specs.Comparing.{both_of, known_of, names_of}
use Rattle.engine_steps.specs.declared.comparing.Compared.{Compared}
use Rattle.engine_steps.specs.declared.steps.Stop.{Stop}
use Rattle.engine_steps.specs.declared.steps.Stop.TheVariants.{Refused, ReadFault as ReadStop, WriteFault as WriteStop, Oom as WantStop}
use Rattle.engine_words.specs.Records.{record_of}
use Rattle.engine_search.specs.Picking.{AreMended, Mends, Picks}
use Rattle.engine_search.proofs.PickLaws.{fixes_mend, picked_offset}
use Rattle.cmd_trial.specs.TrialOutcome.{IsTrialEnd, known_rip, trial_disc_words, trial_known, trial_rip_words}
use Rattle.cmd_trial.specs.TrialFiles.{IsMendedTrial, mended_files, trial_files}
use Rattle.cmd_trial.proofs.TrialLaws.{out_opened, sole_rip, trial_compared, trial_names}

-- no count rises where all are 0
abbrev pub quiet : ShelfCall → ℕ
quiet call = 0

-- ---- what stops a call

pub opens_or_wants : {T A : Type 0} (view : T → A) (step : Result A Status) (found : A) (e : Stop) → step ≡ Ok found → Does view (Err e) step → ReadsWithCause {T = T} quiet quiet (Err e) → e ≡ WantStop
opens_or_wants view step found (Refused status) is does cause = let no : ⊥ = cc in absurd no
opens_or_wants view step found (ReadStop call) is does cause = absurd (let rose = cause.1 in omega (arith, rose))
opens_or_wants view step found (WriteStop call) is does cause = absurd cause
opens_or_wants view step found WantStop is does cause = refl

-- what went well before its failure was turned into another
pub went : {T D : Type 0} (r : Result T Stop) (m : Result T D) (v : T) (failed : Stop → Type 0) → m ≡ Ok v → MatchResult r (λ x. m ≡ Ok x) failed → is_ok m ≡ is_ok r → r ≡ Ok v
went (Ok x) m v failed is cases variant = ap Ok (let same : Ok x ≡ Ok v = sym cases ∙ is in cc (same))
went (Err e) m v failed is cases variant = absurd (let no : is_ok m ≡ false = variant in let yes : is_ok m ≡ true = ap is_ok is in let clash : true ≡ false = sym yes ∙ no in cc)

module _ (sectors : ℕ) (disc : List ℕ) (range : IsSectorCount sectors) (whole : length disc ≡ 1176 * sectors) where
  -- ---- registering

  -- the record's bytes, from what was opened and summed
  pub record_same : (toc : Toc) (words : List ℕ) (shape count : ℕ) (rows : List (List ℕ)) (seal : List ℕ) → toc ≡ one_track_of sectors → words ≡ disc → shape ≡ sectors → count ≡ 8
      → rows ≡ image_parity 8 (per_column shape) words → seal ≡ seal_of_table (per_column shape) (table_of_image words)
      → record_bytes_of toc count rows (Some seal) ≡ record_of 8 (one_track_of sectors) disc
  record_same toc words shape count rows seal layout held size eight summed sealed =
      let parity : rows ≡ image_parity 8 (per_column sectors) disc = summed ∙ ap₂ (λ n w. image_parity 8 (per_column n) w) size held in
      let own : seal ≡ seal_of_table (per_column sectors) (table_of_image disc) = sealed ∙ ap₂ (λ n (w : List ℕ). seal_of_table (per_column n) (table_of_image w)) size held in
      rw (layout, eight, parity, own) refl

  -- ---- mending

  module _ (rip : List ℕ) (words : AreWords disc) (rip_whole : length rip ≡ 1176 * sectors) where
    -- what is compared are the rip and the record
    same_compared : (files : Files) (found : Compared) → files ≡ trial_files sectors disc rip → compared (codes "rip.wav") (codes "disc.rpar") files ≡ Ok (both_of files found)
        → both_of files found ≡ (known_rip sectors disc rip, trial_names)
    same_compared files found stands own =
        let C : Files → Type 0 = λ held. compared (codes "rip.wav") (codes "disc.rpar") held ≡ Ok (known_rip sectors disc rip, trial_names) in
        let is : C files = subst C (sym stands) (trial_compared sectors disc range whole rip words rip_whole) in
        let both : Ok (both_of files found) ≡ Ok (known_rip sectors disc rip, trial_names) = sym own ∙ is in
        cc (both)

    pub same_known : (files : Files) (found : Compared) → files ≡ trial_files sectors disc rip → compared (codes "rip.wav") (codes "disc.rpar") files ≡ Ok (both_of files found)
        → known_of files found ≡ known_rip sectors disc rip
    same_known files found stands own = ap (λ (b : Known × List (List ℕ)). b.0) (same_compared files found stands own)

    pub same_names : (files : Files) (found : Compared) → files ≡ trial_files sectors disc rip → compared (codes "rip.wav") (codes "disc.rpar") files ≡ Ok (both_of files found)
        → names_of found ≡ trial_names
    same_names files found stands own = ap (λ (b : Known × List (List ℕ)). b.1) (same_compared files found stands own)

    -- what is told where it is mended
    pub mended_well : (known : Known) (at : Candidate) (fixes : List Fix) (now : Files) → known ≡ known_rip sectors disc rip → Picks None known (Ok at) → Mends known at fixes
        → now ≡ after_put (part_of (codes "out.wav")) (codes "out.wav") (wav_bytes (patched fixes known.words)) (trial_files sectors disc rip) → IsMendedTrial sectors disc rip (Ok at) now
    unfolding mended_files
    mended_well known at fixes now is picks mends held =
        let own = known_rip sectors disc rip in
        let picked : Picks None own (Ok at) = subst (λ (k : Known). Picks None k (Ok at)) is picks in
        let fixed : Mends own at fixes = subst (λ (k : Known). Mends k at fixes) is mends in
        let mended : AreMended own at.offset (patched fixes rip) = fixes_mend own at fixes range rip_whole (picked_offset None own at picked) fixed in
        (picked, (patched fixes rip, mended, held ∙ ap (λ (k : Known). after_put (part_of (codes "out.wav")) (codes "out.wav") (wav_bytes (patched fixes k.words)) (trial_files sectors disc rip)) is))

    -- and where it isn't
    pub mended_not : (known : Known) (status : Status) (now : Files) → known ≡ known_rip sectors disc rip → Picks None known (Err status) → IsMendedTrial sectors disc rip (Err status) now
    mended_not known status now is picks = (subst (λ (k : Known). Picks None k (Err status)) is picks, tt)

    -- what is read of the mended rip
    pub mended_read : (picked : Result Candidate Status) (at : Candidate) (files : Files) → picked ≡ Ok at → IsMendedTrial sectors disc rip picked files
        → (mended : List ℕ) × Picks None (known_rip sectors disc rip) (Ok at) × AreMended (known_rip sectors disc rip) at.offset mended × (length mended ≡ 1176 * sectors)
        × (opened (codes "out.wav") files ≡ Ok (sole_rip (codes "out.wav") sectors mended))
    mended_read picked at files same told =
        let is : IsMendedTrial sectors disc rip (Ok at) files = subst (λ (p : Result Candidate Status). IsMendedTrial sectors disc rip p files) same told in
        let mended = is.1.0 in
        let size : length mended ≡ 1176 * sectors = is.1.1.2.whole ∙ rip_whole in
        let Reads : Files → Type 0 = λ held. opened (codes "out.wav") held ≡ Ok (sole_rip (codes "out.wav") sectors mended) in
        (mended, is.0, is.1.1, size, subst Reads (sym is.1.2) (out_opened sectors disc range whole rip mended size))

-- ---- the whole

-- what is told of a disc and a rip that were made
pub trial_end : (sectors seed : ℕ) (shift : ℤ) (hits shape : ℕ) (disc rip : List ℕ) (result : TrialResult) → shape ≡ sectors → disc ≡ generated seed (1176 * sectors)
    → rip ≡ damaged (per_column shape) shift hits (late disc shift) → IsTrialEnd disc (known_rip shape disc rip) result → IsTrialEnd (trial_disc_words seed sectors) (trial_known sectors seed shift hits) result
unfolding trial_disc_words trial_rip_words
trial_end sectors seed shift hits shape disc rip result shape_is disc_is rip_is end =
    let E : ℕ → List ℕ → List ℕ → Type 0 = λ s d r. IsTrialEnd d (known_rip s d r) result in
    let one : E shape disc (damaged (per_column shape) shift hits (late disc shift)) = subst (λ (r : List ℕ). E shape disc r) rip_is end in
    let two : E shape (generated seed (1176 * sectors)) (damaged (per_column shape) shift hits (late (generated seed (1176 * sectors)) shift)) = subst (λ (d : List ℕ). E shape d (damaged (per_column shape) shift hits (late d shift))) disc_is one in
    subst (λ (s : ℕ). E s (generated seed (1176 * sectors)) (damaged (per_column s) shift hits (late (generated seed (1176 * sectors)) shift))) shape_is two
