-- The outcome of `upgrade`.
use Rattle.std.proofs.Common.{◌≡◌, ◌∙◌, ◌*◌, ◌≤◌, ◌++◌, ℕ, List, [], ◌∷◌, true, Option, None, Some, IfSome, Result, Ok, Err, arith, refl, sym, ap, ap₂, subst}
use Rattle.std.specs.Prelude.{is_some}
use Rattle.rip_outside.specs.Files.{Files, IsHeld}
use Rattle.rip_outside.proofs.FilesLaws.{if_told_both, if_told_weaker}
use Rattle.std.specs.FinMap.{get}
use Rattle.column_map.specs.Columns.{WordTable, per_column}
use Rattle.column_map.specs.Mending.{AreFixes}
use Rattle.column_map.specs.declared.candidate.Candidate.{Candidate}
use Rattle.column_map.specs.declared.candidate.Fix.{Fix}
use Rattle.disc_toc.specs.Toc.{Toc}
use Rattle.image_mender.specs.Seal.{seal_of_table}
use Rattle.parity_store.specs.Naming.{record_name_of}
use Rattle.parity_store.specs.Reading.{Stored}
use Rattle.parity_store.specs.Record.{record_bytes_of}
use Rattle.rip_inputs.specs.Opening.{Opened}
use Rattle.rip_report.specs.Texts.{upgraded_text}
use Rattle.rip_report.specs.declared.status.Status.{Status}
use Rattle.engine_steps.specs.Outcome.{Outcome, Leaves, Then, ThenOf, output, written}
use Rattle.engine_steps.specs.Comparing.{both_of, known_of}
use Rattle.engine_steps.specs.Steps.{Does, Known, Takes, and_then, compared, known_by, measured, record_found, recorded, same_layout}
use Rattle.engine_steps.specs.declared.comparing.Compared.{Compared}
use Rattle.engine_steps.specs.declared.steps.Answer.{Answer}
use Rattle.engine_steps.specs.declared.steps.Stop.{Stop}
use Rattle.engine_steps.proofs.ComparedLaws.{compared_range, few_words, second_found}
use Rattle.engine_steps.proofs.Leaving.{leaves_weaker}
use Rattle.engine_steps.proofs.OutcomeLaws.{then_of_one, then_one}
use Rattle.engine_steps.proofs.TakingLaws.{found_at, found_told, stopped_takes, takes_after}
use Rattle.engine_search.specs.Agreement.{ReadsCompared, ReadsForSeal}
use Rattle.engine_search.specs.Picking.{Mends, Picks}
use Rattle.engine_search.proofs.PickLaws.{picks_one}
use Rattle.engine_search.proofs.SealingLaws.{SealedSoFar, compared_bytes, one_seal}
use Rattle.cmd_upgrade.specs.UpgradeOutcome.{IsSealedOutcome, IsUpgradeOf, IsUpgradeOutcome, upgradable, upgraded}

-- ---- at most one outcome

-- tables by which the rip agrees give the record one seal
sealed_once : (name : List ℕ) (toc : Toc) (known : Known) (at : Candidate) (a b : Outcome) → per_column known.sectors ≤ 65535 → IsSealedOutcome name toc known at a → IsSealedOutcome name toc known at b → a ≡ b
sealed_once name toc known at a b small is also =
    let one = one_seal known at.offset is.0 also.0 small is.1.fits also.1.fits in
    is.2 ∙ ap (upgraded name toc known at) one ∙ sym also.2

upgrade_of_once : (name : List ℕ) (toc : Toc) (found : Known × List (List ℕ)) (a b : Outcome) → per_column found.0.sectors ≤ 65535 → IsUpgradeOf name toc found a → IsUpgradeOf name toc found b → a ≡ b
upgrade_of_once name toc found a b small is also =
    let known = found.0 in
    then_one (upgradable name known.seal found.1) _ a b
    (λ _ _. then_of_one (Picks None known) _ a b (picks_one known small None) (λ at _ is also. sealed_once name toc known at a b small is also)) is also

pub upgrade_once : (input rec : List ℕ) (files : Files) (a b : Outcome) → IsUpgradeOutcome input rec files a → IsUpgradeOutcome input rec files b → a ≡ b
upgrade_once input rec files a b is also =
    then_one (measured input files) _ a b
    (λ rip _. then_one (compared input rec files) _ a b
    (λ found compares is also. upgrade_of_once (record_name_of rec rip.toc) rip.toc found a b (few_words found.0 (compared_range input rec files found.0 found.1 compares)) is also))
    is also

-- ---- what comes of a rip that was picked

upgraded_clean : (name : List ℕ) (toc : Toc) (known : Known) (at : Candidate) (seal : List ℕ) → at.errors ≡ 0
    → upgraded name toc known at seal ≡ written (upgraded_text at name) (output name (record_bytes_of toc known.count known.stored (Some seal)) ∷ [])
upgraded_clean name toc known at seal clean = rw clean refl

module _ (name : List ℕ) (toc : Toc) (known : Known) (at : Candidate) (fixes : List Fix) (mends : Mends known at fixes) where
  -- the record has the seal of the mended words
  pub sealed_outcome : (seal stored text : List ℕ) (o : Outcome) → at.errors ≡ 0
      → ((table : WordTable) → AreFixes (per_column known.sectors) known.words at.offset table fixes → seal ≡ seal_of_table (per_column known.sectors) table)
      → text ≡ upgraded_text at name → stored ≡ record_bytes_of toc known.count known.stored (Some seal) → o ≡ written text (output name stored ∷ []) → IsSealedOutcome name toc known at o
  sealed_outcome seal stored text o clean sealed text_is stored_is is =
      let own : seal ≡ seal_of_table (per_column known.sectors) mends.0 = sealed mends.0 mends.2 in
      let made = stored_is ∙ ap (λ s. record_bytes_of toc known.count known.stored (Some s)) own in
      (mends.0, mends.1, is ∙ ap₂ (λ t b. written t (output name b ∷ [])) text_is made ∙ sym (upgraded_clean name toc known at (seal_of_table (per_column known.sectors) mends.0) clean))

-- ---- what comes of a rip and a record that were compared

abbrev pub ComparedTo : List ℕ → List ℕ → Files → Known × List (List ℕ) → Outcome → Type 0
ComparedTo input rec files found outcome = (rip : Opened) × (measured input files ≡ Ok rip) × IsUpgradeOf (record_name_of rec rip.toc) rip.toc found outcome

same_rip : (input rec : List ℕ) (files : Files) (rip : Opened) (step : Result (Known × List (List ℕ)) Status) (o : Outcome) → measured input files ≡ Ok rip
    → Then step (ComparedTo input rec files) o → Then step (IsUpgradeOf (record_name_of rec rip.toc) rip.toc) o
same_rip input rec files rip (Err status) o found is = is
same_rip input rec files rip (Ok both) o found is =
    let same : Ok is.0 ≡ Ok rip = sym is.1 ∙ found in
    let one : is.0 ≡ rip = cc in
    subst (λ (r : Opened). IsUpgradeOf (record_name_of rec r.toc) r.toc both o) one is.2

pub upgrade_meets : (input rec : List ℕ) (files : Files) (o : Outcome) → Then (compared input rec files) (ComparedTo input rec files) o → IsUpgradeOutcome input rec files o
upgrade_meets input rec files o is = by (measured input files) refl is
  where
    next : Opened → Result (Known × List (List ℕ)) Status
    next rip = and_then (recorded (record_name_of rec rip.toc) files) (λ stored. and_then (same_layout rip.toc stored.toc) (λ _. Ok (known_by rip stored, rip.names ++ record_name_of rec rip.toc ∷ [])))

    by : (m : Result Opened Status) → measured input files ≡ m → Then (and_then m next) (ComparedTo input rec files) o
        → Then m (λ rip. Then (and_then m next) (IsUpgradeOf (record_name_of rec rip.toc) rip.toc)) o
    by (Err status) found is = is
    by (Ok rip) found is = same_rip input rec files rip (next rip) o found is

-- what the command leaves
pub upgrade_left : (input rec : List ℕ) (h0 h : Option Files) (r : Result Answer Stop) → IfSome h0 (λ files. Leaves (Then (compared input rec files) (ComparedTo input rec files)) files r h)
    → IfSome h0 (λ files. Leaves (IsUpgradeOutcome input rec files) files r h)
upgrade_left input rec h0 h r left =
    if_told_weaker h0 (λ files. Leaves (Then (compared input rec files) (ComparedTo input rec files)) files r h) _
    (λ files left. leaves_weaker (Then (compared input rec files) (ComparedTo input rec files)) (IsUpgradeOutcome input rec files) files r h (upgrade_meets input rec files) left) left

-- the same of the rip whose layout is known
pub upgrade_of_left : (input rec : List ℕ) (toc : Toc) (found : Files → Known × List (List ℕ)) (h0 h : Option Files) (r : Result Answer Stop)
    → IfSome h0 (λ files. (rip : Opened) × (measured input files ≡ Ok rip) × (rip.toc ≡ toc)) → IfSome h0 (λ files. Leaves (IsUpgradeOf (record_name_of rec toc) toc (found files)) files r h)
    → IfSome h0 (λ files. Leaves (ComparedTo input rec files (found files)) files r h)
upgrade_of_left input rec toc found h0 h r opens left =
    if_told_both h0 (λ files. (rip : Opened) × (measured input files ≡ Ok rip) × (rip.toc ≡ toc)) (λ files. Leaves (IsUpgradeOf (record_name_of rec toc) toc (found files)) files r h) _
    (λ files rip left. leaves_weaker (IsUpgradeOf (record_name_of rec toc) toc (found files)) (ComparedTo input rec files (found files)) files r h
    (λ o is. (rip.0, rip.1, subst (λ (t : Toc). IsUpgradeOf (record_name_of rec t) t (found files) o) (sym rip.2) is)) left)
    opens left

-- an outcome that writes
pub upgrade_done : (input rec : List ℕ) (files : Files) (found : Known × List (List ℕ)) (toc : Toc) (at : Candidate) (o : Outcome) → compared input rec files ≡ Ok found
    → (rip : Opened) × (measured input files ≡ Ok rip) × (rip.toc ≡ toc) → upgradable (record_name_of rec toc) found.0.seal found.1 ≡ Ok tt → Picks None found.0 (Ok at)
    → IsSealedOutcome (record_name_of rec toc) toc found.0 at o → IsUpgradeOutcome input rec files o
upgrade_done input rec files found toc at o compares rip may picks is =
    let name = record_name_of rec toc in
    let met : ThenOf (Picks None found.0) (λ at. IsSealedOutcome name toc found.0 at) o = (Ok at, picks, is) in
    let of : IsUpgradeOf name toc found o = subst (λ (r : Result (Unit {0}) Status). Then r (λ _. ThenOf (Picks None found.0) (λ at. IsSealedOutcome name toc found.0 at)) o) (sym may) met in
    let so : ComparedTo input rec files found o = (rip.0, rip.1, subst (λ (t : Toc). IsUpgradeOf (record_name_of rec t) t found o) (sym rip.2) of) in
    upgrade_meets input rec files o (subst (λ (r : Result (Known × List (List ℕ)) Status). Then r (ComparedTo input rec files) o) (sym compares) so)

-- a record that was read is held
held_recorded : (name : List ℕ) (files : Files) (stored : Stored) → recorded name files ≡ Ok stored → IsHeld name files
held_recorded name files stored is = by (get files name) refl is
  where
    by : (o : Option (List ℕ)) → get files name ≡ o → record_found name o ≡ Ok stored → is_some (get files name) ≡ true
    by None held is = let no : ⊥ = cc in absurd no
    by (Some bytes) held is = rw held refl

pub record_held : (input rec : List ℕ) (files : Files) (found : Known × List (List ℕ)) (toc : Toc) → compared input rec files ≡ Ok found
    → (rip : Opened) × (measured input files ≡ Ok rip) × (rip.toc ≡ toc) → IsHeld (record_name_of rec toc) files
record_held input rec files found toc compares rip =
    let one = second_found (measured input files) _ found compares in
    let two = second_found (recorded (record_name_of rec one.0.toc) files) _ found one.2 in
    let held : IsHeld (record_name_of rec one.0.toc) files = held_recorded (record_name_of rec one.0.toc) files two.0 two.1 in
    let same : Ok one.0 ≡ Ok rip.0 = sym one.1 ∙ rip.1 in
    let first : one.0 ≡ rip.0 = cc in
    subst (λ (t : Toc). IsHeld (record_name_of rec t) files) (ap (λ (r : Opened). r.toc) first ∙ rip.2) held

-- ---- the bytes that are taken

-- where the record has no seal the rip was read once more, after it was opened
pub upgrade_so_far : {T : Type 0} (h0 : Option Files) (input rec : List ℕ) (found : Compared) (t0 t1 : ℕ) (rc : Result Compared Stop) (r : Result T Stop) → rc ≡ Ok found → found.seal ≡ None
    → IfSome h0 (λ files. Does (both_of files) rc (compared input rec files)) → SealedSoFar h0 (compared input rec) None (compared_bytes input rec) r t0 t1
    → (files : Files) → h0 ≡ Some files → Takes (2 * compared_bytes input rec files) r t0 t1
upgrade_so_far h0 input rec found t0 t1 rc r is unsealed does so_far files told =
    let both : compared input rec files ≡ Ok (both_of files found) = found_told h0 both_of (compared input rec) rc found is does files told in
    let none : ReadsForSeal found.seal None (known_of files found) 0 = subst (λ (s : Option (List ℕ)). ReadsForSeal s None (known_of files found) 0) (sym unsealed) refl in
    so_far files told 0 (subst (λ (step : Result (Known × List (List ℕ)) Status). ReadsCompared step None 0) (sym both) none)

pub upgrade_stopped : {T U : Type 0} (all t0 t1 : ℕ) (r : Result T Stop) (e : Stop) (result : Result U Stop) → r ≡ Err e → result ≡ Err e → Takes (2 * all) r t0 t1 → Takes (3 * all) result t0 t1
upgrade_stopped all t0 t1 r e result is out_is takes = stopped_takes (3 * all) t0 t1 r e result is out_is (takes_after 0 (2 * all) (3 * all) t0 t0 t1 r (omega arith) (omega arith) takes)

pub upgrade_more : {T U : Type 0} (all w t0 t1 t2 : ℕ) (r : Result T Stop) (found : T) (result : Result U Stop) → r ≡ Ok found → w ≤ all → Takes (2 * all) r t0 t1 → Takes w result t1 t2 → Takes (3 * all) result t0 t2
upgrade_more all w t0 t1 t2 r found result is low so_far takes = takes_after (2 * all) w (3 * all) t0 t1 t2 result (found_at (2 * all) t0 t1 r found is so_far) (omega (arith, low)) takes
