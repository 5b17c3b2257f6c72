-- What a command leaves where one of its steps ends it.
use Rattle.std.proofs.Common.{subst, ◌≡◌, ◌≢◌, ℕ, List, [], ◌∷◌, Bool, true, false, cond, Option, None, Some, IfSome, Result, Ok, Err, refl, sym, ◌∙◌, ap, inl, inr, arith, length, length-append}
use Rattle.std.specs.Prelude.{codes, is_some, slice_get}
use Rattle.std.specs.List.{list_any}
use Rattle.std.specs.Str.{bytes_eq}
use Rattle.std.specs.FinMap.{get}
use Rattle.rip_outside.specs.Files.{Files, Becomes, LeavesName, WhereTold, after_put}
use Rattle.rip_outside.specs.Outputs.{Output, StandsUpTo, part_of}
use Rattle.rip_outside.specs.declared.fault.ShelfCall.{ShelfCall}
use Rattle.rip_outside.specs.declared.fault.ShelfCall.TheVariants.{Rename}
use Rattle.parity_store.specs.declared.storing.PutFail.{PutFail}
use Rattle.parity_store.specs.declared.storing.PutFail.TheVariants.{WriteFault, Oom}
use Rattle.image_mender.specs.declared.mending.MendFail.{MendFail}
use Rattle.image_mender.specs.declared.mending.MendFail.TheVariants.{ReadFault as MendReadFault, WriteFault as MendWriteFault, Oom as MendOom}
use Rattle.engine_steps.specs.Steps.{first_taken, free, freed, Does, EndsWithCause, Meets, ReadsWithCause, ReadsOnly, OnlyRefuses, mend_stop, stop_of}
use Rattle.engine_steps.specs.Outcome.{Outcome, answered, output, refused, written, Then, ThenOf, Leaves, LeavesPart, Partly}
use Rattle.rip_report.specs.declared.status.Status.{Status}
use Rattle.rip_report.specs.declared.status.Status.TheVariants.{Done, OutExists}
use Rattle.engine_steps.specs.declared.steps.Answer.{Answer}
use Rattle.engine_steps.specs.declared.steps.Stop.{Stop}
use Rattle.engine_steps.specs.declared.steps.Stop.TheVariants.{Refused, ReadFault as ReadStop, WriteFault as WriteStop, Oom as WantStop}

-- a call that makes no call of the shelf raises no count
pub reads_nothing : {T : Type 0} (before now : ShelfCall → ℕ) (r : Result T Stop) → OnlyRefuses r → ReadsWithCause before now r
reads_nothing before now (Ok found) only = tt
reads_nothing before now (Err (Refused status)) only = only
reads_nothing before now (Err (ReadStop call)) only = absurd only
reads_nothing before now (Err (WriteStop call)) only = absurd only
reads_nothing before now (Err WantStop) only = tt

-- and its stop is passed on
refusal_has_cause : (T : Type 0) (before now : ShelfCall → ℕ) (e : Stop) → OnlyRefuses {T = T} (Err e) → EndsWithCause before now (Err e)
refusal_has_cause T before now (Refused status) only = only
refusal_has_cause T before now (ReadStop call) only = absurd only
refusal_has_cause T before now (WriteStop call) only = absurd only
refusal_has_cause T before now WantStop only = tt

pub refused_with_cause : {T : Type 0} (before now : ShelfCall → ℕ) (r : Result T Stop) (e : Stop) (result : Result Answer Stop) → r ≡ Err e → result ≡ Err e → OnlyRefuses r
    → EndsWithCause before now result
refused_with_cause {T = T} before now r e result is out_is only = rw out_is (refusal_has_cause T before now e (rw is at only))

module _ {A T : Type 0} (view : Files → T → A) where
  stopped_at : (files : Files) (step : Result A Status) (next : A → Outcome → Type 0) (before now : ShelfCall → ℕ) (e : Stop)
      → ReadsWithCause {T = T} before now (Err e) → Does (view files) (Err e) step → Leaves (Then step next) files (Err e) (Some files)
  stopped_at files step next before now (Refused status) cause does = (refl, rw does refl)
  stopped_at files step next before now (ReadStop call) cause does = inl refl
  stopped_at files step next before now (WriteStop call) cause does = absurd cause
  stopped_at files step next before now WantStop cause does = inl refl

  -- a step stopped the command
  pub stopped : (step : Files → Result A Status) (next : Files → A → Outcome → Type 0) (before now : ShelfCall → ℕ)
      (h0 h1 : Option Files) (r : Result T Stop) (e : Stop) (result : Result Answer Stop) → r ≡ Err e → result ≡ Err e → h1 ≡ h0
      → ReadsWithCause before now r → IfSome h0 (λ files. Does (view files) r (step files))
      → IfSome h0 (λ files. Leaves (Then (step files) (next files)) files result h1)
  stopped step next before now None h1 r e result is out_is same cause does = tt
  stopped step next before now (Some files) h1 r e result is out_is same cause does =
      rw (out_is, same) (stopped_at files (step files) (next files) before now e (rw is at cause) (rw is at does))

  -- a step found something, and the command went on
  pub went_on : (step : Files → Result A Status) (next : Files → A → Outcome → Type 0)
      (h0 h : Option Files) (r : Result T Stop) (found : T) (result : Result Answer Stop) → r ≡ Ok found
      → IfSome h0 (λ files. Does (view files) r (step files)) → IfSome h0 (λ files. Leaves (next files (view files found)) files result h)
      → IfSome h0 (λ files. Leaves (Then (step files) (next files)) files result h)
  went_on step next None h r found result is does rest = tt
  went_on step next (Some files) h r found result is does rest =
      let does' : step files ≡ Ok (view files found) = rw is at does in rw does' rest

partly_weaker : (is weaker : Outcome → Type 0) (renaming : Type 0) (old : Files) (now : Option Files) → ((o : Outcome) → is o → weaker o) → Partly is renaming old now → Partly weaker renaming old now
partly_weaker is weaker renaming old now step put = (put.0, step put.0 put.1, put.2)

part_weaker : (is weaker : Outcome → Type 0) (old : Files) (now : Option Files) → ((o : Outcome) → is o → weaker o) → LeavesPart is old now → LeavesPart weaker old now
part_weaker is weaker old now step (inl kept) = inl kept
part_weaker is weaker old now step (inr put) = inr (partly_weaker is weaker ⊥ old now step put)

-- what a command leaves, by a weaker meaning
pub leaves_weaker : (is weaker : Outcome → Type 0) (old : Files) (r : Result Answer Stop) (now : Option Files) → ((o : Outcome) → is o → weaker o) → Leaves is old r now → Leaves weaker old r now
leaves_weaker is weaker old (Ok answer) now step left = (left.0, step left.0 left.1, left.2, left.3, left.4)
leaves_weaker is weaker old (Err (Refused status)) now step left = (left.0, step (refused status) left.1)
leaves_weaker is weaker old (Err (ReadStop call)) now step left = part_weaker is weaker old now step left
leaves_weaker is weaker old (Err (WriteStop call)) now step left = partly_weaker is weaker (call ≡ Rename) old now step left
leaves_weaker is weaker old (Err WantStop) now step left = part_weaker is weaker old now step left

-- the files that are told stayed
pub told_leaves : (is : Files → Outcome → Type 0) (h0 h : Option Files) (r : Result Answer Stop) → h ≡ h0
    → ((files : Files) → Leaves (is files) files r (Some files)) → IfSome h0 (λ files. Leaves (is files) files r h)
told_leaves is None h r same left = tt
told_leaves is (Some files) h r same left = rw same (left files)

-- what is printed of the files that stayed
pub told_done : (h0 h : Option Files) (text : List ℕ) (make : Files → List ℕ) → h ≡ h0 → IfSome h0 (λ files. text ≡ make files)
    → IfSome h0 (λ files. Leaves (λ o. o ≡ answered Done (make files)) files (Ok record { status = Done; text = text }) h)
told_done None h text make same is = tt
told_done (Some files) h text make same is = (answered Done (make files), refl, refl, sym is, same)

module _ {A T : Type 0} (view : Files → T → A) (step : Files → Result A Status → Type 0) (next : Files → A → Outcome → Type 0) where
  stopped_of_at : (files : Files) (before now : ShelfCall → ℕ) (e : Stop) → ReadsWithCause {T = T} before now (Err e) → Meets (view files) (Err e) (step files) → Leaves (ThenOf (step files) (next files)) files (Err e) (Some files)
  stopped_of_at files before now (Refused status) cause meets = (refl, (Err status, meets, refl))
  stopped_of_at files before now (ReadStop call) cause meets = inl refl
  stopped_of_at files before now (WriteStop call) cause meets = absurd cause
  stopped_of_at files before now WantStop cause meets = inl refl

  -- a step that is stated as a relation stopped the command
  pub stopped_of : (before now : ShelfCall → ℕ) (h0 h1 : Option Files) (r : Result T Stop) (e : Stop) (result : Result Answer Stop) → r ≡ Err e → result ≡ Err e → h1 ≡ h0
      → ReadsWithCause before now r → IfSome h0 (λ files. Meets (view files) r (step files)) → IfSome h0 (λ files. Leaves (ThenOf (step files) (next files)) files result h1)
  stopped_of before now None h1 r e result is out_is same cause meets = tt
  stopped_of before now (Some files) h1 r e result is out_is same cause meets = rw (out_is, same) (stopped_of_at files before now e (rw is at cause) (rw is at meets))

  -- and here it found something, and the command went on
  pub went_on_of : (h0 h : Option Files) (r : Result T Stop) (found : T) (result : Result Answer Stop) → r ≡ Ok found
      → IfSome h0 (λ files. Meets (view files) r (step files)) → IfSome h0 (λ files. Leaves (next files (view files found)) files result h)
      → IfSome h0 (λ files. Leaves (ThenOf (step files) (next files)) files result h)
  went_on_of None h r found result is meets rest = tt
  went_on_of (Some files) h r found result is meets rest =
      let meets' : step files (Ok (view files found)) = rw is at meets in
      leaves_weaker (next files (view files found)) (ThenOf (step files) (next files)) files result h (λ o is. (Ok (view files found), meets', is)) rest

-- a call past the last refusal stopped the command
cut_short_at : (T : Type 0) (is : Outcome → Type 0) (files : Files) (before now : ShelfCall → ℕ) (e : Stop) → ReadsOnly {T = T} before now (Err e)
    → Leaves is files (Err e) (Some files)
cut_short_at T is files before now (Refused status) cause = absurd cause
cut_short_at T is files before now (ReadStop call) cause = inl refl
cut_short_at T is files before now (WriteStop call) cause = absurd cause
cut_short_at T is files before now WantStop cause = inl refl

pub cut_short : {T : Type 0} (is : Files → Outcome → Type 0) (before now : ShelfCall → ℕ) (h0 h1 : Option Files) (r : Result T Stop) (e : Stop) (result : Result Answer Stop)
    → r ≡ Err e → result ≡ Err e → h1 ≡ h0 → ReadsOnly before now r → IfSome h0 (λ files. Leaves (is files) files result h1)
cut_short is before now None h1 r e result is_e out_is same cause = tt
cut_short {T = T} is before now (Some files) h1 r e result is_e out_is same cause = rw (out_is, same) (cut_short_at T (is files) files before now e (rw is_e at cause))

-- ---- names that are free

-- of one name
pub free_one : (out : List ℕ) (read : List (List ℕ)) (files : Files) → free (out ∷ []) read files ≡ freed (list_any (bytes_eq (part_of out)) read) out files
free_one out read files = by (is_some (get files out)) (list_any (bytes_eq (part_of out)) read)
  where
    by : (held among : Bool) → first_taken (cond held (Some out) None) (cond among (Some out) None) ≡ cond held (Err (OutExists out)) (cond among (Err (OutExists (part_of out))) (Ok tt))
    by true among = refl
    by false true = refl
    by false false = refl

-- what a test of one name tells
pub free_told : (out : List ℕ) (read : List (List ℕ)) (h : Option Files) (r : Result (Unit {0}) Stop) → IfSome h (λ files. Does (λ _. tt) r (freed (list_any (bytes_eq (part_of out)) read) out files))
    → IfSome h (λ files. Does (λ _. tt) r (free (out ∷ []) read files))
free_told out read None r does = tt
free_told out read (Some files) r does = rw free_one does

-- the output isn't held where it is free
pub free_name : (out : List ℕ) (read : List (List ℕ)) (files : Files) → free (out ∷ []) read files ≡ Ok tt → get files out ≡ None
free_name out read files is = by (get files out) refl is
  where
    by : (o : Option (List ℕ)) → get files out ≡ o → free (out ∷ []) read files ≡ Ok tt → get files out ≡ None
    by None e is = e
    by (Some bytes) e is = let no : ⊥ = cc in absurd no

-- ---- an output that is written

-- writing an output stops for a fault or want of memory
abbrev pub PutsWithCause : Stop → Type 0
PutsWithCause (Refused status) = ⊥
PutsWithCause (ReadStop call) = Unit {0}
PutsWithCause (WriteStop call) = Unit {0}
PutsWithCause WantStop = Unit {0}

-- what a failed writing leaves, under another name of its cause
pub leaves_name : (part out bytes : List ℕ) (renaming other : Type 0) (old new : Files) → (renaming → other) → LeavesName part out bytes renaming old new → LeavesName part out bytes other old new
leaves_name part out bytes renaming other old new step left = record {
  others = left.others;
  before_or_whole = elim left.before_or_whole [ inl before ↦ inl before | inr whole ↦ inr (step whole.0, whole.1) ];
}

-- an outcome with outputs of which the next isn't there has some
pub stands_some : (outs : List Output) (m : ℕ) (renaming : Type 0) (old new : Files) → StandsUpTo outs m renaming old new → outs ≢ []
stands_some outs m renaming old new stands none = let here : slice_get [] m ≡ Some stands.next = rw none at stands.here in let no : ⊥ = cc in absurd no

module _ (part out text : List ℕ) (part_is : part ≡ part_of out) where
  -- the first of one output is being written
  first_part : (bytes : List ℕ) (files : Files) (renaming wanted : Type 0) (h : Option Files) → (renaming → wanted) → WhereTold (LeavesName part out bytes renaming) (Some files) h
      → Partly (λ o. o ≡ written text (output out bytes ∷ [])) wanted files h
  first_part bytes files renaming wanted h step told =
      let L : List ℕ → Type 0 = λ p. LeavesName p out bytes wanted files told.0 in
      let left : L (part_of out) = subst L part_is (leaves_name part out bytes renaming wanted files told.0 step told.2) in
      (written text (output out bytes ∷ []), refl, (0, told.0, told.1, record { next = output out bytes; here = refl; left = left }))

  put_stopped_at : (bytes : List ℕ) (files : Files) (e : Stop) (h : Option Files) → PutsWithCause e → WhereTold (LeavesName part out bytes (e ≡ WriteStop Rename)) (Some files) h
      → Leaves (λ o. o ≡ written text (output out bytes ∷ [])) files (Err e) h
  put_stopped_at bytes files (Refused status) h puts told = absurd puts
  put_stopped_at bytes files (WriteStop call) h puts told = first_part bytes files (WriteStop call ≡ WriteStop Rename) (call ≡ Rename) h (λ is. cc (is)) told
  put_stopped_at bytes files (ReadStop call) h puts told = inr (first_part bytes files (ReadStop call ≡ WriteStop Rename) ⊥ h (λ e. cc) told)
  put_stopped_at bytes files WantStop h puts told = inr (first_part bytes files (WantStop ≡ WriteStop Rename) ⊥ h (λ e. cc) told)

  -- writing an output stopped
  pub put_stopped : (make : Files → List ℕ) (e : Stop) (result : Result Answer Stop) (h0 h1 h2 : Option Files) → result ≡ Err e → PutsWithCause e → h1 ≡ h0
      → WhereTold (λ old new. LeavesName part out (make old) (e ≡ WriteStop Rename) old new) h1 h2
      → IfSome h0 (λ files. Leaves (λ o. o ≡ written text (output out (make files) ∷ [])) files result h2)
  put_stopped make e result None h1 h2 is puts same told = tt
  put_stopped make e result (Some files) h1 h2 is puts same told = rw is (put_stopped_at (make files) files e h2 puts (rw same at told))

  -- writing an output went well
  pub put_done : (make : Files → List ℕ) (result : Result Answer Stop) (h0 h1 h2 : Option Files) → result ≡ Ok record { status = Done; text = text } → h1 ≡ h0
      → Becomes (λ files. after_put part out (make files) files) h1 h2
      → IfSome h0 (λ files. Leaves (λ o. o ≡ written text (output out (make files) ∷ [])) files result h2)
  put_done make result None h1 h2 is same put = tt
  put_done make result (Some files) h1 h2 is same put =
      let put' : h2 ≡ Some (after_put part out (make files) files) = rw same at put in
      rw is (written text (output out (make files) ∷ []), refl, refl, refl, put' ∙ ap (λ p. Some (after_put p out (make files) files)) part_is)

-- what was put is what the rip makes
pub stored : (out line text bytes : List ℕ) (make : Files → List ℕ) (result : Result Answer Stop) (h0 h1 h2 : Option Files) → h1 ≡ h0 → text ≡ line
    → IfSome h0 (λ files. bytes ≡ make files) → IfSome h1 (λ files. Leaves (λ o. o ≡ written text (output out bytes ∷ [])) files result h2)
    → IfSome h0 (λ files. Leaves (λ o. o ≡ written line (output out (make files) ∷ [])) files result h2)
stored out line text bytes make result None h1 h2 same prints made left = tt
stored out line text bytes make result (Some files) h1 h2 same prints made left =
    let left' : IfSome (Some files) (λ files. Leaves (λ o. o ≡ written text (output out bytes ∷ [])) files result h2) = rw same at left in
    let P : List ℕ → List ℕ → Type 0 = λ t b. Leaves (λ o. o ≡ written t (output out b ∷ [])) files result h2 in
    subst (λ (b : List ℕ). P line b) made (subst (λ (t : List ℕ). P t bytes) prints left')

-- an output's part has another name
pub part_differs : (part out : List ℕ) → part ≡ part_of out → part ≢ out
part_differs part out is same = absurd (omega (arith, length-append out (codes ".part"), ap length (sym is ∙ same)))

-- the stop of a failed put or mending
pub stop_puts : (fail : PutFail) → PutsWithCause (stop_of fail)
stop_puts (WriteFault call) = tt
stop_puts Oom = tt

pub stop_mends : (fail : MendFail) → PutsWithCause (mend_stop fail)
stop_mends (MendReadFault call) = tt
stop_mends (MendWriteFault call) = tt
stop_mends MendOom = tt
