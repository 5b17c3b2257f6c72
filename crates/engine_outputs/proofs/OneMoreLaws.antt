-- One more file is written, or isn't, after some.
use Rattle.std.proofs.Common.{◌≡◌, ◌∙◌, ℕ, ◌+◌, ◌≤◌, List, length, take, slice_get, Option, None, Some, IfSome, Result, Ok, Err, refl, sym, ap, subst, inr}
use Rattle.std.specs.Option.{ForSome, option_map}
use Rattle.std.proofs.lemmas.List.{take_all}
use Rattle.rip_outside.specs.Files.{Files, Becomes, LeavesName, WhereTold, after_put}
use Rattle.rip_outside.specs.Outputs.{MayStand, Output, PutsSome, after_outputs, part_of}
use Rattle.rip_outside.specs.Crashes.{Crashes, Outlook, StoresWhole, TellsHeld, WhereForetold}
use Rattle.rip_outside.specs.Crashes.Outlook.{Untold, Foretold}
use Rattle.rip_outside.specs.declared.fault.ShelfCall.TheVariants.{Rename}
use Rattle.rip_outside.proofs.FilesLaws.{becomes_same, becomes_twice}
use Rattle.rip_outside.proofs.OutputLaws.{after_next, puts_all, puts_next, puts_none, puts_stopped}
use Rattle.rip_outside.proofs.CrashLaws.{foretold_thrice, foretold_weaker}
use Rattle.rip_outside.proofs.StoreLaws.{stores_otherwise}
use Rattle.rip_report.specs.declared.status.Status.TheVariants.{Done}
use Rattle.engine_steps.specs.Crashing.{CrashLeaves, CrashSafe}
use Rattle.engine_steps.specs.Outcome.{Leaves, Outcome, written}
use Rattle.engine_steps.specs.Steps.{ComesToEnd}
use Rattle.engine_steps.specs.declared.steps.Answer.{Answer}
use Rattle.engine_steps.specs.declared.steps.Stop.{Stop}
use Rattle.engine_steps.specs.declared.steps.Stop.TheVariants.{Refused, ReadFault as ReadStop, WriteFault as WriteStop, Oom as WantStop}
use Rattle.engine_steps.proofs.Leaving.{leaves_name}
use Rattle.engine_outputs.specs.Writing.{RefusesNothing}

-- a stop that refuses nothing is no end of a command
pub refusing_none : {T : Type 0} (stop : Stop) (result : Result T Stop) → result ≡ Err stop → RefusesNothing stop → ComesToEnd result → ⊥
refusing_none (Refused status) result is writes ends = writes
refusing_none (ReadStop call) result is writes ends = rw is at ends
refusing_none (WriteStop call) result is writes ends = rw is at ends
refusing_none WantStop result is writes ends = rw is at ends

module _ (outs : Files → List Output) (text : List ℕ) where
  -- the outcome of them all
  abbrev pub all_of : Files → Outcome → Type 0
  all_of files o = o ≡ written text (outs files)

  stand_leaves : (old left : Files) → MayStand (outs old) old left → CrashLeaves (all_of old) old left
  stand_leaves old left stand = inr (written text (outs old), refl, stand)

  -- ---- before the first, and after the last

  pub none_held_yet : (h : Option Files) → Becomes (λ files. after_outputs (take 0 (outs files)) files) h h
  none_held_yet None = refl
  none_held_yet (Some files) = refl

  pub none_put_yet : (o : Outlook) → WhereForetold (λ a b. PutsSome (outs a.files) 0 a b) o o
  none_put_yet Untold = tt
  none_put_yet (Foretold a) = puts_none (outs a.files) a

  pub all_put : (n : ℕ) (well : Type 0) (o0 o1 : Outlook) → WhereForetold (λ a b. PutsSome (outs a.files) n a b) o0 o1 → CrashSafe all_of well o0 o1
  all_put n well o0 o1 puts =
      foretold_weaker (λ a b. PutsSome (outs a.files) n a b) (StoresWhole (λ old left. CrashLeaves (all_of old) old left) well) o0 o1 puts
      (λ a b some. stores_otherwise (MayStand (outs a.files)) (λ old left. CrashLeaves (all_of old) old left) well well a b (λ left stand. stand_leaves a.files left stand) (λ w. w) (puts_all (outs a.files) n well a b some))

  pub all_left : (n : ℕ) (h0 h1 : Option Files) → ForSome h0 (λ files. length (outs files) ≤ n) → Becomes (λ files. after_outputs (take n (outs files)) files) h0 h1
      → IfSome h0 (λ files. Leaves (all_of files) files (Ok record { status = Done; text = text }) h1)
  all_left n None h1 all held = tt
  all_left n (Some files) h1 all held =
      let whole : take n (outs files) ≡ outs files = take_all n (outs files) (all files refl) in
      (written text (outs files), refl, refl, refl, held ∙ ap (λ some. Some (after_outputs some files)) whole)

  -- ---- the next one

  module _ (i : ℕ) (part to : List ℕ) (make bytes : Files → List ℕ) (part_is : part ≡ part_of to) where
    -- the next output is this one, and what is made of the files now is what was to be made
    pub record Fits (files : Files) : Type 0 where
      pub here : slice_get (outs files) i ≡ Some record { name = to; bytes = bytes files }
      pub made : make (after_outputs (take i (outs files)) files) ≡ bytes files

    next_files : (files : Files) → Fits files → after_put part to (make (after_outputs (take i (outs files)) files)) (after_outputs (take i (outs files)) files) ≡ after_outputs (take (i + 1) (outs files)) files
    next_files files fits =
        ap (λ b. after_put part to b (after_outputs (take i (outs files)) files)) fits.made
        ∙ ap (λ p. after_put p to (bytes files) (after_outputs (take i (outs files)) files)) part_is
        ∙ sym (after_next (outs files) i record { name = to; bytes = bytes files } files fits.here)

    pub held_next : (h0 h1 h2 : Option Files) → ForSome h0 Fits → Becomes (λ files. after_outputs (take i (outs files)) files) h0 h1 → Becomes (λ files. after_put part to (make files) files) h1 h2
        → Becomes (λ files. after_outputs (take (i + 1) (outs files)) files) h0 h2
    held_next h0 h1 h2 fits so_far put =
        becomes_same _ _ h0 h2 (becomes_twice (λ files. after_outputs (take i (outs files)) files) (λ files. after_put part to (make files) files) h0 h1 h2 so_far put)
        (λ files told. next_files files (fits files told))

    -- the part of the output that is being written, as it stands to the files that there were
    as_output : (renaming : Type 0) (a now left : Files) → Fits a → now ≡ after_outputs (take i (outs a)) a → LeavesName part to (make now) renaming now left
        → LeavesName (part_of to) to (bytes a) renaming now left
    as_output renaming a now left fits is leaves =
        let made : make now ≡ bytes a = ap make is ∙ fits.made in
        let one : LeavesName part to (bytes a) renaming now left = subst (λ (b : List ℕ). LeavesName part to b renaming now left) made leaves in
        subst (λ (p : List ℕ). LeavesName p to (bytes a) renaming now left) part_is one

    whole_output : (well : Type 0) (a b c : Crashes) → Fits a.files → b.files ≡ after_outputs (take i (outs a.files)) a.files
        → StoresWhole (λ old left. LeavesName part to (make old) (Unit {0}) old left) well b c → StoresWhole (LeavesName (part_of to) to (bytes a.files) (Unit {0})) well b c
    whole_output well a b c fits is stores =
        stores_otherwise (λ old left. LeavesName part to (make old) (Unit {0}) old left) (LeavesName (part_of to) to (bytes a.files) (Unit {0})) well well b c
        (λ left l. as_output (Unit {0}) a.files b.files left fits is l) (λ w. w) stores

    pub put_next : (well : Type 0) (h0 h1 h2 : Option Files) (o0 o1 o2 : Outlook) → TellsHeld h0 o0 → TellsHeld h1 o1 → TellsHeld h2 o2 → ForSome h0 Fits
        → Becomes (λ files. after_put part to (make files) files) h1 h2 → well
        → WhereForetold (λ a b. PutsSome (outs a.files) i a b) o0 o1 → WhereForetold (StoresWhole (λ old left. LeavesName part to (make old) (Unit {0}) old left) well) o1 o2
        → WhereForetold (λ a b. PutsSome (outs a.files) (i + 1) a b) o0 o2
    put_next well h0 h1 h2 o0 o1 o2 t0 t1 t2 fits put went so_far stores =
        foretold_thrice (λ a b. PutsSome (outs a.files) i a b) (StoresWhole (λ old left. LeavesName part to (make old) (Unit {0}) old left) well) (λ a b. PutsSome (outs a.files) (i + 1) a b)
        h0 h1 h2 o0 o1 o2 t0 t1 t2 so_far stores
        (λ a b c is0 is1 is2 puts s.
        let fit = fits a.files is0 in
        let now : Some c.files ≡ Some (after_put part to (make b.files) b.files) = sym is2 ∙ put ∙ ap (option_map (λ files. after_put part to (make files) files)) is1 in
        let files_now : c.files ≡ after_put part to (make b.files) b.files = cc in
        let made : make b.files ≡ bytes a.files = ap make puts.files ∙ fit.made in
        let files_are : c.files ≡ after_put (part_of to) to (bytes a.files) b.files = files_now ∙ ap (λ x. after_put part to x b.files) made ∙ ap (λ p. after_put p to (bytes a.files) b.files) part_is in
        puts_next (outs a.files) i record { name = to; bytes = bytes a.files } well a b c fit.here puts (whole_output well a b c fit puts.files s) went files_are)

    -- and where it isn't written, some stand
    pub put_stopped : (well well' : Type 0) (h0 h1 h2 : Option Files) (o0 o1 o2 : Outlook) → TellsHeld h0 o0 → TellsHeld h1 o1 → TellsHeld h2 o2 → ForSome h0 Fits → (well → ⊥) → ForSome h0 (λ _. well' → ⊥)
        → WhereForetold (λ a b. PutsSome (outs a.files) i a b) o0 o1 → WhereForetold (StoresWhole (λ old left. LeavesName part to (make old) (Unit {0}) old left) well) o1 o2
        → CrashSafe all_of well' o0 o2
    put_stopped well well' h0 h1 h2 o0 o1 o2 t0 t1 t2 fits never never' so_far stores =
        foretold_thrice (λ a b. PutsSome (outs a.files) i a b) (StoresWhole (λ old left. LeavesName part to (make old) (Unit {0}) old left) well) (StoresWhole (λ old left. CrashLeaves (all_of old) old left) well')
        h0 h1 h2 o0 o1 o2 t0 t1 t2 so_far stores
        (λ a b c is0 is1 is2 puts s.
        let fit = fits a.files is0 in
        stores_otherwise (MayStand (outs a.files)) (λ old left. CrashLeaves (all_of old) old left) well well' a c (λ left stand. stand_leaves a.files left stand) (λ w. absurd (never' a.files is0 w))
        (puts_stopped (outs a.files) i record { name = to; bytes = bytes a.files } well a b c fit.here puts (whole_output well a b c fit puts.files s) never))

    stopped_at : (files : Files) (e : Stop) (h : Option Files) → Fits files → RefusesNothing e
        → WhereTold (λ old new. LeavesName part to (make old) (e ≡ WriteStop Rename) old new) (Some (after_outputs (take i (outs files)) files)) h
        → Leaves (all_of files) files (Err e) h
    stopped_at files (Refused status) h fits writes told = absurd writes
    stopped_at files (WriteStop call) h fits writes told = (
      written text (outs files),
      refl,
      (
        i,
        told.0,
        told.1,
        record {
          next = record { name = to; bytes = bytes files };
          here = fits.here;
          left = leaves_name (part_of to) to (bytes files) (WriteStop call ≡ WriteStop Rename) (call ≡ Rename) _ told.0 (λ is. cc (is)) (as_output (WriteStop call ≡ WriteStop Rename) files _ told.0 fits refl told.2);
        },
      ),
    )
    stopped_at files (ReadStop call) h fits writes told =
        inr (
          written text (outs files),
          refl,
          (
            i,
            told.0,
            told.1,
            record {
              next = record { name = to; bytes = bytes files };
              here = fits.here;
              left = leaves_name (part_of to) to (bytes files) (ReadStop call ≡ WriteStop Rename) ⊥ _ told.0 (λ is. cc) (as_output (ReadStop call ≡ WriteStop Rename) files _ told.0 fits refl told.2);
            },
          ),
        )
    stopped_at files WantStop h fits writes told =
        inr (
          written text (outs files),
          refl,
          (
            i,
            told.0,
            told.1,
            record {
              next = record { name = to; bytes = bytes files };
              here = fits.here;
              left = leaves_name (part_of to) to (bytes files) (WantStop ≡ WriteStop Rename) ⊥ _ told.0 (λ is. cc) (as_output (WantStop ≡ WriteStop Rename) files _ told.0 fits refl told.2);
            },
          ),
        )

    pub left_stopped : (e : Stop) (result : Result Answer Stop) (h0 h1 h2 : Option Files) → result ≡ Err e → ForSome h0 Fits → RefusesNothing e
        → Becomes (λ files. after_outputs (take i (outs files)) files) h0 h1 → WhereTold (λ old new. LeavesName part to (make old) (e ≡ WriteStop Rename) old new) h1 h2
        → IfSome h0 (λ files. Leaves (all_of files) files result h2)
    left_stopped e result None h1 h2 is fits writes so_far told = tt
    left_stopped e result (Some files) h1 h2 is fits writes so_far told = rw is (stopped_at files e h2 (fits files refl) writes (rw so_far at told))
