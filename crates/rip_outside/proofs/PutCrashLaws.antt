-- What a crash may leave while a file is put under a name.
use Rattle.std.proofs.Common.{◌≡◌, ◌≢◌, ℕ, Bool, true, cond, List, Option, Some, None, sym, ◌∙◌, ap, inl, inr}
use Rattle.std.specs.Option.{ForSome, is_some, option_map}
use Rattle.std.specs.FinMap.{get, remove}
use Rattle.rip_outside.specs.Files.{Files, Becomes, SameBut, WhereTold, LeavesName, after_make, after_append, after_put, after_rename}
use Rattle.rip_outside.specs.Crashes.Outlook.{Untold, Foretold}
use Rattle.rip_outside.specs.Crashes.{is_among, without, Crashes, IsSettled, Outlook, WhereForetold, TellsHeld, EachMoment, Touches, Unsettles, Settles, Moves, StoresWhole}
use Rattle.rip_outside.proofs.FilesLaws.{get-insert_same, get-insert_other, get-remove_same, get-remove_other}
use Rattle.rip_outside.proofs.PutLaws.{after_calls}
use Rattle.rip_outside.proofs.CrashLaws.{touches_unsettled, touches_settled, elapses_twice, each_twice, among_other, not_without, among_without_same, among_without_other, foretold_held, foretold_weaker, held_files}
use Rattle.rip_outside.proofs.FilesLaws.{same_or_other}

-- the files that a change leaves
changed_files : (change : Files → Files) (h0 h1 : Option Files) (a b : Files) → h0 ≡ Some a → h1 ≡ Some b → Becomes change h0 h1 → b ≡ change a
changed_files change h0 h1 a b is0 is1 becomes = let e : Some b ≡ Some (change a) = sym is1 ∙ becomes ∙ ap (option_map change) is0 in cc

-- the bytes that are put, by what the files were
module _ (part name : List ℕ) (bytes : Files → List ℕ) (differ : part ≢ name) where
  -- what a crash leaves of these files
  abbrev leaves : Files → Files → Type 0
  leaves files left = LeavesName part name (bytes files) (Unit {0}) files left

  -- every name but the part's is as before
  kept_part : (files left : Files) → ((q : List ℕ) → q ≢ part → get left q ≡ get files q) → leaves files left
  kept_part files left same = record { others = λ q apart _. same q apart; before_or_whole = inl (same name (λ e. differ (sym e))) }

  -- all is as after the calls
  was_put : (files left : Files) → ((q : List ℕ) → get left q ≡ get (after_put part name (bytes files) files) q) → leaves files left
  was_put files left same = record {
    others = λ q apart other. same q ∙ get-insert_other (remove files part) name (bytes files) q other ∙ get-remove_other files part q apart;
    before_or_whole = inr (tt, same name ∙ get-insert_same (remove files part) name (bytes files));
  }

  -- ---- calls that touched the part alone

  touched_moments : (a b : Crashes) → Touches part a b → IsSettled a → EachMoment (leaves a.files) a b
  touched_moments a b touched settled left s = kept_part a.files left (λ q ne. touched.moments left s q (among_other q part a.unsettled ne ∙ settled q))

  pub store_untouched : (went_well : Type 0) (a b : Crashes) → (went_well → ⊥) → Touches part a b → StoresWhole leaves went_well a b
  store_untouched went_well a b never touched = record {
    elapses = touched.elapses;
    moments = touched_moments a b touched;
    settled = λ _ well. absurd (never well);
  }

  -- ---- all of the calls

  module _ (went_well oom : Type 0) (a c d e : Crashes)
      (written : c.files ≡ after_append part (bytes a.files) (after_make part a.files)) (kept : d.files ≡ c.files) (moved : went_well → e.files ≡ after_rename part name d.files)
      (touched : Touches part a c) (synced : Settles part true c d) (renamed : Moves part name oom d e) where
    -- after the sync nothing is unsettled
    synced_all : IsSettled a → IsSettled d
    synced_all settled q = synced.unsettled q ∙ elim (same_or_other q part) [
      | inl is ↦ ap (λ k. is_among k (without part c.unsettled)) is ∙ among_without_same part c.unsettled
      | inr ne ↦ among_without_other q part c.unsettled ne ∙ touched.unsettled q (among_other q part a.unsettled ne ∙ settled q)
    ]

    -- the renaming leaves what a put leaves
    is_renamed : after_rename part name d.files ≡ after_put part name (bytes a.files) a.files
    is_renamed = ap (after_rename part name) (kept ∙ written) ∙ after_calls part name (bytes a.files) a.files differ

    sync_moments : IsSettled a → EachMoment (leaves a.files) c d
    sync_moments settled left s = kept_part a.files left
        (λ q ne. synced.moments left s q (touched.unsettled q (among_other q part a.unsettled ne ∙ settled q)) ∙ touched.files q ne)

    rename_moments : IsSettled a → EachMoment (leaves a.files) d e
    rename_moments settled left s = elim ((renamed.whole (synced_all settled part)).moments left s) [
      | inl before ↦ kept_part a.files left (λ q ne. before q (synced_all settled q) ∙ ap (λ files. get files q) kept ∙ touched.files q ne)
      | inr after ↦ was_put a.files left (λ q. after q (not_without q name d.unsettled (synced_all settled q)) ∙ ap (λ files. get files q) is_renamed)
    ]

    last_settled : IsSettled a → went_well → IsSettled e
    last_settled settled well q =
        let gone : get e.files part ≡ None = ap (λ files. get files part) (moved well) ∙ get-remove_same _ part in
        (renamed.whole (synced_all settled part)).unsettled q ∙ ap (λ (o : Option (List ℕ)). is_among q (cond (is_some o) d.unsettled (without name d.unsettled))) gone
        ∙ not_without q name d.unsettled (synced_all settled q)

    pub store_whole : StoresWhole leaves went_well a e
    store_whole =
        let before = elapses_twice a c d touched.elapses synced.elapses in record {
          elapses = elapses_twice a d e before renamed.elapses;
          moments = λ settled. each_twice _ a d e before renamed.elapses
              (each_twice _ a c d touched.elapses synced.elapses (touched_moments a c touched settled) (sync_moments settled)) (rename_moments settled);
          settled = last_settled;
        }

  -- ---- as the shelf tells it

  pub told_untouched : (went_well : Type 0) (o0 o : Outlook) → (went_well → ⊥) → WhereForetold (Touches part) o0 o → WhereForetold (StoresWhole leaves went_well) o0 o
  told_untouched went_well o0 o never touched = foretold_weaker (Touches part) (StoresWhole leaves went_well) o0 o touched (λ a b r. store_untouched went_well a b never r)

  -- the bytes that were added to a part that was made
  pub written_part : (h0 h1 h2 : Option Files) → Becomes (after_make part) h0 h1 → ForSome h0 (λ old. Becomes (after_append part (bytes old)) h1 h2)
      → ForSome h0 (λ old. h2 ≡ Some (after_append part (bytes old) (after_make part old)))
  written_part h0 h1 h2 made appended = λ old told. appended old told ∙ ap (option_map (after_append part (bytes old))) (made ∙ ap (option_map (after_make part)) told)

  -- all of the calls
  pub told_whole : (went_well oom : Type 0) (h0 h2 h3 h4 : Option Files) (o0 o2 o3 o4 : Outlook)
      → TellsHeld h0 o0 → TellsHeld h2 o2 → TellsHeld h3 o3 → TellsHeld h4 o4
      → ForSome h0 (λ old. h2 ≡ Some (after_append part (bytes old) (after_make part old))) → h3 ≡ h2 → (went_well → Becomes (after_rename part name) h3 h4)
      → WhereForetold (Touches part) o0 o2 → WhereForetold (Settles part true) o2 o3 → WhereForetold (Moves part name oom) o3 o4 → WhereForetold (StoresWhole leaves went_well) o0 o4
  told_whole went_well oom h0 h2 h3 h4 Untold Untold Untold Untold t0 t2 t3 t4 written kept moved touched synced renamed = tt
  told_whole went_well oom h0 h2 h3 h4 Untold Untold Untold (Foretold e) t0 t2 t3 t4 written kept moved touched synced renamed = renamed
  told_whole went_well oom h0 h2 h3 h4 Untold Untold (Foretold d) o4 t0 t2 t3 t4 written kept moved touched synced renamed = absurd synced
  told_whole went_well oom h0 h2 h3 h4 Untold (Foretold c) o3 o4 t0 t2 t3 t4 written kept moved touched synced renamed = absurd touched
  told_whole went_well oom h0 h2 h3 h4 (Foretold a) Untold o3 o4 t0 t2 t3 t4 written kept moved touched synced renamed = absurd touched
  told_whole went_well oom h0 h2 h3 h4 (Foretold a) (Foretold c) Untold o4 t0 t2 t3 t4 written kept moved touched synced renamed = absurd synced
  told_whole went_well oom h0 h2 h3 h4 (Foretold a) (Foretold c) (Foretold d) Untold t0 t2 t3 t4 written kept moved touched synced renamed = renamed
  told_whole went_well oom h0 h2 h3 h4 (Foretold a) (Foretold c) (Foretold d) (Foretold e) t0 t2 t3 t4 written kept moved touched synced renamed =
      let written' : c.files ≡ after_append part (bytes a.files) (after_make part a.files) = (let w : Some c.files ≡ Some (after_append part (bytes a.files) (after_make part a.files)) = sym t2 ∙ written a.files t0 in cc) in
      let kept' : d.files ≡ c.files = (let k : Some d.files ≡ Some c.files = sym t3 ∙ kept ∙ t2 in cc) in
      store_whole went_well oom a c d e written' kept' (λ well. changed_files _ h3 h4 d.files e.files t3 t4 (moved well)) touched synced renamed

-- a call that writes the part alone
pub told_touch : (part : List ℕ) (oom : Type 0) (h0 h1 : Option Files) (o0 o1 : Outlook) → TellsHeld h0 o0 → TellsHeld h1 o1 → WhereTold (SameBut part) h0 h1
    → WhereForetold (Unsettles part oom) o0 o1 → WhereForetold (Touches part) o0 o1
told_touch part oom h0 h1 o0 o1 t0 t1 same call =
    foretold_held (Unsettles part oom) (Touches part) h0 h1 o0 o1 t0 t1 call (λ a b is0 is1 r. touches_unsettled part oom a b r (held_files (SameBut part) h0 h1 a b is0 is1 same))

pub told_sync : (part : List ℕ) (went_well : Bool) (h0 h1 : Option Files) (o0 o1 : Outlook) → TellsHeld h0 o0 → TellsHeld h1 o1 → h1 ≡ h0
    → WhereForetold (Settles part went_well) o0 o1 → WhereForetold (Touches part) o0 o1
told_sync part went_well h0 h1 o0 o1 t0 t1 same call =
    foretold_held (Settles part went_well) (Touches part) h0 h1 o0 o1 t0 t1 call
    (λ a b is0 is1 r. touches_settled part went_well a b r (let e : Some b.files ≡ Some a.files = sym is1 ∙ same ∙ is0 in cc))
