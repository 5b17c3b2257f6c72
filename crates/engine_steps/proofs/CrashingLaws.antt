-- What a crash may leave while a command runs, step by step.
use Rattle.std.proofs.Common.{◌≡◌, ℕ, List, [], ◌∷◌, Option, Result, Err, inl, inr, refl, subst}
use Rattle.std.specs.Option.{ForSome}
use Rattle.rip_outside.specs.Files.{Files, LeavesName}
use Rattle.rip_outside.specs.Outputs.{part_of}
use Rattle.rip_outside.specs.Crashes.{Outlook, WhereForetold, TellsHeld, Rests, StoresWhole}
use Rattle.rip_outside.proofs.CrashLaws.{told_rests, foretold_weaker}
use Rattle.rip_outside.proofs.OutputLaws.{some_stand}
use Rattle.rip_outside.proofs.StoreLaws.{told_rests_stores, told_rests_then_stores, told_stores_otherwise, stores_otherwise}
use Rattle.engine_steps.specs.Outcome.{Outcome, output, written}
use Rattle.engine_steps.specs.Crashing.{CrashLeaves, CrashSafe}
use Rattle.engine_steps.specs.Steps.{ComesToEnd, mend_stop, stop_of}
use Rattle.engine_steps.specs.declared.steps.Stop.{Stop}
use Rattle.engine_steps.specs.declared.steps.Stop.TheVariants.{Refused, ReadFault as ReadStop, WriteFault as WriteStop, Oom as WantStop}
use Rattle.parity_store.specs.declared.storing.PutFail.{PutFail}
use Rattle.parity_store.specs.declared.storing.PutFail.TheVariants.{WriteFault, Oom}
use Rattle.image_mender.specs.declared.mending.MendFail.{MendFail}
use Rattle.image_mender.specs.declared.mending.MendFail.TheVariants.{ReadFault as MendReadFault, WriteFault as MendWriteFault, Oom as MendOom}

-- calls that only read
pub safe_rests : (is : Files → Outcome → Type 0) (went_well : Type 0) (o0 o1 : Outlook) → WhereForetold Rests o0 o1 → CrashSafe is went_well o0 o1
safe_rests is went_well o0 o1 rests = told_rests_stores (λ old left. CrashLeaves (is old) old left) (λ files. inl refl) went_well o0 o1 rests

-- no call
pub safe_none : (is : Files → Outcome → Type 0) (went_well : Type 0) (o : Outlook) → CrashSafe is went_well o o
safe_none is went_well o = safe_rests is went_well o o (told_rests o)

-- calls that only read, and then the command
pub safe_after : (is : Files → Outcome → Type 0) (went_well : Type 0) (o0 o1 o2 : Outlook) → WhereForetold Rests o0 o1 → CrashSafe is went_well o1 o2 → CrashSafe is went_well o0 o2
safe_after is went_well o0 o1 o2 rests safe = told_rests_then_stores (λ old left. CrashLeaves (is old) old left) (λ files. inl refl) went_well o0 o1 o2 rests safe

crash_weaker : (is weaker : Outcome → Type 0) (old left : Files) → ((o : Outcome) → is o → weaker o) → CrashLeaves is old left → CrashLeaves weaker old left
crash_weaker is weaker old left step (inl same) = inl same
crash_weaker is weaker old left step (inr put) = inr (put.0, step put.0 put.1, put.2)

-- an outcome, said otherwise of the files that there are
pub safe_weaker : (is weaker : Files → Outcome → Type 0) (went_well : Type 0) (h0 h1 : Option Files) (o0 o1 : Outlook) → TellsHeld h0 o0 → TellsHeld h1 o1
    → ForSome h0 (λ files. (o : Outcome) → is files o → weaker files o) → CrashSafe is went_well o0 o1 → CrashSafe weaker went_well o0 o1
safe_weaker is weaker went_well h0 h1 o0 o1 t0 t1 step safe =
    told_stores_otherwise (λ old left. CrashLeaves (is old) old left) (λ old left. CrashLeaves (weaker old) old left) went_well went_well h0 h1 o0 o1 t0 t1
    (λ files told left. crash_weaker (is files) (weaker files) files left (step files told)) (λ well. well) safe

pub safe_when : (is : Files → Outcome → Type 0) (well well' : Type 0) (o0 o1 : Outlook) → (well' → well) → CrashSafe is well o0 o1 → CrashSafe is well' o0 o1
safe_when is well well' o0 o1 goes safe =
    foretold_weaker (StoresWhole (λ old left. CrashLeaves (is old) old left) well) (StoresWhole (λ old left. CrashLeaves (is old) old left) well') o0 o1 safe
    (λ a b r. stores_otherwise (λ old left. CrashLeaves (is old) old left) (λ old left. CrashLeaves (is old) old left) well well' a b (λ left l. l) goes r)

-- one output that is put
module _ (part out text : List ℕ) (make : Files → List ℕ) where
  abbrev puts : Files → Files → Type 0
  puts old left = LeavesName part out (make old) (Unit {0}) old left

  abbrev one : Files → Outcome → Type 0
  one files o = o ≡ written text (output out (make files) ∷ [])

  put_leaves : (old left : Files) → part ≡ part_of out → puts old left → CrashLeaves (one old) old left
  put_leaves old left is left_so = inr (
    written text (output out (make old) ∷ []),
    refl,
    some_stand (output out (make old) ∷ []) 0 (Unit {0}) old left
        (record { next = output out (make old); here = refl; left = subst (λ (p : List ℕ). LeavesName p out (make old) (Unit {0}) old left) is left_so }),
  )

  pub safe_put : (well well' : Type 0) (o0 o1 : Outlook) → part ≡ part_of out → (well' → well) → WhereForetold (StoresWhole puts well) o0 o1 → CrashSafe one well' o0 o1
  safe_put well well' o0 o1 is goes put =
      foretold_weaker (StoresWhole puts well) (StoresWhole (λ old left. CrashLeaves (one old) old left) well') o0 o1 put
      (λ a b r. stores_otherwise puts (λ old left. CrashLeaves (one old) old left) well well' a b (λ left l. put_leaves a.files left is l) goes r)

-- ---- whether a command comes to its end

-- a put that fails keeps it from that
pub put_ends_none : {T : Type 0} (fail : PutFail) (result : Result T Stop) → result ≡ Err (stop_of fail) → ComesToEnd result → ⊥
put_ends_none (WriteFault call) result is ends = rw is at ends
put_ends_none Oom result is ends = rw is at ends

-- and so does a mending that fails
pub mend_ends_none : {T : Type 0} (fail : MendFail) (result : Result T Stop) → result ≡ Err (mend_stop fail) → ComesToEnd result → ⊥
mend_ends_none (MendReadFault call) result is ends = rw is at ends
mend_ends_none (MendWriteFault call) result is ends = rw is at ends
mend_ends_none MendOom result is ends = rw is at ends

-- two that stop in the same way come both to their end, or neither does
pub same_end : {T U : Type 0} (stop : Stop) (result : Result T Stop) (other : Result U Stop) → result ≡ Err stop → other ≡ Err stop → ComesToEnd other → ComesToEnd result
same_end (Refused status) result other is other_is ends = rw is tt
same_end (ReadStop call) result other is other_is ends = let no : ⊥ = rw other_is at ends in absurd no
same_end (WriteStop call) result other is other_is ends = let no : ⊥ = rw other_is at ends in absurd no
same_end WantStop result other is other_is ends = let no : ⊥ = rw other_is at ends in absurd no
