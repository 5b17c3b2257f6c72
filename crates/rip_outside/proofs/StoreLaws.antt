-- Calls that store files, after calls that only read.
use Rattle.std.proofs.Common.{◌≡◌, Option, ◌∙◌, ap}
use Rattle.std.specs.Option.{ForSome}
use Rattle.rip_outside.specs.Files.{Files}
use Rattle.rip_outside.specs.Crashes.{is_among, Crashes, IsSettled, LeavesNow, Outlook, WhereForetold, TellsHeld, EachMoment, Rests, StoresWhole}
use Rattle.rip_outside.specs.Crashes.Outlook.{Untold, Foretold}
use Rattle.rip_outside.proofs.FilesLaws.{same_files}
use Rattle.rip_outside.proofs.CrashLaws.{elapses_twice, each_twice, foretold_held, foretold_weaker}

-- a crash of a settled shelf leaves what is held
pub settled_leaves : (a : Crashes) → IsSettled a → (left : Files) → LeavesNow a left → left ≡ a.files
settled_leaves a settled left now = same_files left a.files (λ q. now q (settled q))

module _ (leaves : Files → Files → Type 0) (as_before : (files : Files) → leaves files files) where
  rest_moments : (a b : Crashes) → Rests a b → IsSettled a → EachMoment (leaves a.files) a b
  rest_moments a b rests settled left s = rw (settled_leaves a settled left (rests.moments left s)) (as_before a.files)

  rest_settled : (a b : Crashes) → Rests a b → IsSettled a → IsSettled b
  rest_settled a b rests settled q = ap (is_among q) rests.unsettled ∙ settled q

  pub rests_stores : (went_well : Type 0) (a b : Crashes) → Rests a b → StoresWhole leaves went_well a b
  rests_stores went_well a b rests = record {
    elapses = rests.elapses;
    moments = rest_moments a b rests;
    settled = λ settled _. rest_settled a b rests settled;
  }

  pub rests_then_stores : (went_well : Type 0) (a b c : Crashes) → Rests a b → StoresWhole leaves went_well b c → StoresWhole leaves went_well a c
  rests_then_stores went_well a b c rests stores = record {
    elapses = elapses_twice a b c rests.elapses stores.elapses;
    moments = λ settled. each_twice (leaves a.files) a b c rests.elapses stores.elapses (rest_moments a b rests settled)
        (λ left s. rw rests.files at (stores.moments (rest_settled a b rests settled) left s));
    settled = λ settled well. stores.settled (rest_settled a b rests settled) well;
  }

  -- ---- as the shelf tells it

  pub told_rests_stores : (went_well : Type 0) (o0 o1 : Outlook) → WhereForetold Rests o0 o1 → WhereForetold (StoresWhole leaves went_well) o0 o1
  told_rests_stores went_well o0 o1 rests = foretold_weaker Rests (StoresWhole leaves went_well) o0 o1 rests (λ a b r. rests_stores went_well a b r)

  pub told_rests_then_stores : (went_well : Type 0) (o0 o1 o2 : Outlook) → WhereForetold Rests o0 o1 → WhereForetold (StoresWhole leaves went_well) o1 o2 → WhereForetold (StoresWhole leaves went_well) o0 o2
  told_rests_then_stores went_well Untold Untold Untold rests stores = tt
  told_rests_then_stores went_well Untold Untold (Foretold c) rests stores = stores
  told_rests_then_stores went_well Untold (Foretold b) o2 rests stores = absurd rests
  told_rests_then_stores went_well (Foretold a) Untold o2 rests stores = absurd rests
  told_rests_then_stores went_well (Foretold a) (Foretold b) Untold rests stores = stores
  told_rests_then_stores went_well (Foretold a) (Foretold b) (Foretold c) rests stores = rests_then_stores went_well a b c rests stores

-- what is stored, said otherwise of the files that there are
pub stores_otherwise : (leaves leaves' : Files → Files → Type 0) (well well' : Type 0) (a b : Crashes) → ((left : Files) → leaves a.files left → leaves' a.files left)
    → (well' → well) → StoresWhole leaves well a b → StoresWhole leaves' well' a b
stores_otherwise leaves leaves' well well' a b as_left goes stores = record {
  elapses = stores.elapses;
  moments = λ settled left s. as_left left (stores.moments settled left s);
  settled = λ settled w. stores.settled settled (goes w);
}

pub told_stores_otherwise : (leaves leaves' : Files → Files → Type 0) (well well' : Type 0) (h0 h1 : Option Files) (o0 o1 : Outlook) → TellsHeld h0 o0 → TellsHeld h1 o1
    → ForSome h0 (λ files. (left : Files) → leaves files left → leaves' files left) → (well' → well)
    → WhereForetold (StoresWhole leaves well) o0 o1 → WhereForetold (StoresWhole leaves' well') o0 o1
told_stores_otherwise leaves leaves' well well' h0 h1 o0 o1 t0 t1 as_left goes stores =
    foretold_held (StoresWhole leaves well) (StoresWhole leaves' well') h0 h1 o0 o1 t0 t1 stores
    (λ a b is0 is1 r. stores_otherwise leaves leaves' well well' a b (as_left a.files is0) goes r)
