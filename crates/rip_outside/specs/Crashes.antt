-- What a crash may leave of a shelf's files, and what the calls do to that.
use Rattle.std.specs.Prelude.{◌≡◌, ◌⊎◌, ◌↔◌, ℕ, ◌≤◌, Bool, true, false, not, List, [], ◌∷◌, filter, Option, Some, if◌then◌else◌}
use Rattle.std.specs.List.{list_any}
use Rattle.std.specs.Option.{is_some}
use Rattle.std.specs.Str.{bytes_eq}
use Rattle.std.specs.FinMap.{get}
use Rattle.rip_outside.specs.Files.{Files, SameBut, LeavesName, after_rename}

-- whether a name is one of these
abbrev pub is_among : List ℕ → List (List ℕ) → Bool
is_among name names = list_any (λ one. bytes_eq one name) names

-- the names without one
abbrev pub without : List ℕ → List (List ℕ) → List (List ℕ)
without name names = filter (λ one. not (bytes_eq one name)) names

-- the same names, in whatever order
abbrev pub SameNames : List (List ℕ) → List (List ℕ) → Type 0
SameNames names others = (name : List ℕ) → is_among name names ≡ is_among name others

-- A crash leaves each settled name with what it holds, and absent where it isn't held; an unsettled one it leaves absent
-- or with any bytes.
abbrev pub MayLeave : Files → List (List ℕ) → Files → Type 0
MayLeave files unsettled left = (name : List ℕ) → is_among name unsettled ≡ false → get left name ≡ get files name

-- What a shelf tells of crashes: the time, the files and which of their names are unsettled, and which files a crash
-- at some moment since a time may have left.
pub record Crashes : Type 1 where
  pub time : ℕ
  pub files : Files
  pub unsettled : List (List ℕ)
  pub since : ℕ → Files → Type 0
  -- since the present time there is no moment but now
  pub since_now : (left : Files) → since time left ↔ MayLeave files unsettled left
  -- a moment since a time is one since each earlier time
  pub since_earlier : (t later : ℕ) (left : Files) → t ≤ later → later ≤ time → since later left → since t left

-- whether a crash now may leave these files
abbrev pub LeavesNow : Crashes → Files → Type 0
LeavesNow crashes left = MayLeave crashes.files crashes.unsettled left

-- all names are settled
abbrev pub IsSettled : Crashes → Type 0
IsSettled crashes = SameNames crashes.unsettled []

-- what a shelf tells of crashes, or that it doesn't
pub data Outlook : Type 1 where
  Untold : Outlook
  Foretold : Crashes → Outlook

-- Where crashes were told, they are still, in this relation to what was told before; where they weren't, they aren't.
abbrev pub WhereForetold : (Crashes → Crashes → Type 0) → Outlook → Outlook → Type 0
WhereForetold relation Untold Untold = Unit {0}
WhereForetold relation Untold (Foretold new) = ⊥
WhereForetold relation (Foretold old) Untold = ⊥
WhereForetold relation (Foretold old) (Foretold new) = relation old new

-- where crashes are told, they are so
abbrev pub IfForetold : Outlook → (Crashes → Type 0) → Type 0
IfForetold Untold P = Unit {0}
IfForetold (Foretold crashes) P = P crashes

-- the files of which crashes are told are those that are held
abbrev pub TellsHeld : Option Files → Outlook → Type 0
TellsHeld held outlook = IfForetold outlook (λ crashes. held ≡ Some crashes.files)

-- ---- what goes on between two times

-- Time goes on. A crash since an earlier time may have left what it might have left before, or what one since then may
-- have, and nothing else.
pub record Elapses (old new : Crashes) : Type 0 where
  pub later : old.time ≤ new.time
  pub since : (t : ℕ) (left : Files) → t ≤ old.time → new.since t left ↔ (old.since t left ⊎ new.since old.time left)

-- a crash at any moment since then leaves such files
abbrev pub EachMoment : (Files → Type 0) → Crashes → Crashes → Type 0
EachMoment P old new = (left : Files) → new.since old.time left → P left

-- After calls that only read: a crash leaves what it could leave before them, now and at each of their moments.
pub record Rests (old new : Crashes) : Type 0 where
  pub elapses : Elapses old new
  pub files : new.files ≡ old.files
  pub unsettled : new.unsettled ≡ old.unsettled
  pub moments : EachMoment (LeavesNow old) old new

-- After calls that write one name alone: a crash leaves every other name as it may have been left before, and settled where it was.
pub record Touches (name : List ℕ) (old new : Crashes) : Type 0 where
  pub elapses : Elapses old new
  pub moments : EachMoment (MayLeave old.files (name ∷ old.unsettled)) old new
  pub unsettled : (other : List ℕ) → is_among other (name ∷ old.unsettled) ≡ false → is_among other new.unsettled ≡ false
  pub files : SameBut name old.files new.files

-- After a call that writes a name: the name is unsettled from the call's start on. Where the call wanted memory and changed
-- nothing, the name may be settled or not as it was.
pub record Unsettles (name : List ℕ) (oom : Type 0) (old new : Crashes) : Type 0 where
  pub elapses : Elapses old new
  pub moments : EachMoment (MayLeave old.files (name ∷ old.unsettled)) old new
  pub unsettled : SameNames new.unsettled (name ∷ old.unsettled) ⊎ (oom × (new.files ≡ old.files) × SameNames new.unsettled old.unsettled)

-- After a call that makes sure of a name: it is settled. Where the call failed, it is as it was.
pub record Settles (name : List ℕ) (went_well : Bool) (old new : Crashes) : Type 0 where
  pub elapses : Elapses old new
  pub moments : EachMoment (LeavesNow old) old new
  pub unsettled : SameNames new.unsettled (if went_well then without name old.unsettled else old.unsettled)

-- After a settled name was given another: a crash in the middle leaves the names as before or as after. Both are settled
-- where it was done, which is exactly where the first isn't held any more, and else each is settled or not as it was.
pub record MovesWhole (from to : List ℕ) (old new : Crashes) : Type 0 where
  pub moments : EachMoment (λ left. LeavesNow old left ⊎ MayLeave (after_rename from to old.files) (without to old.unsettled) left) old new
  pub unsettled : SameNames new.unsettled (if is_some (get new.files from) then old.unsettled else without to old.unsettled)

-- After an unsettled name was given another: both are unsettled. Where the call wanted memory, both may be as they were.
pub record MovesTorn (from to : List ℕ) (oom : Type 0) (old new : Crashes) : Type 0 where
  pub moments : EachMoment (MayLeave old.files (from ∷ to ∷ old.unsettled)) old new
  pub unsettled : SameNames new.unsettled (from ∷ to ∷ old.unsettled) ⊎ (oom × SameNames new.unsettled old.unsettled)

-- after a call that gives a name another
pub record Moves (from to : List ℕ) (oom : Type 0) (old new : Crashes) : Type 0 where
  pub elapses : Elapses old new
  pub whole : is_among from old.unsettled ≡ false → MovesWhole from to old new
  pub torn : is_among from old.unsettled ≡ true → MovesTorn from to oom old new

-- ---- a file that is put under a name

-- On a settled shelf, a crash at any moment since the start leaves the files so, against what they were at the start. Once all
-- has gone well, the shelf is settled: a crash leaves just what is held then.
pub record StoresWhole (leaves : Files → Files → Type 0) (went_well : Type 0) (old new : Crashes) : Type 0 where
  pub elapses : Elapses old new
  pub moments : IsSettled old → EachMoment (leaves old.files) old new
  pub settled : IsSettled old → went_well → IsSettled new

-- every name but the part is as before, or the one name holds all of the bytes
abbrev pub PutsWhole : List ℕ → List ℕ → List ℕ → Type 0 → Crashes → Crashes → Type 0
PutsWhole part name bytes went_well old new = StoresWhole (LeavesName part name bytes (Unit {0})) went_well old new
