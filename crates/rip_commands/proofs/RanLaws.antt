-- What is told of a command, from what its steps came to.
use Rattle.std.specs.Prelude.{Result, Ok, Err, IfOk}
use Rattle.std.proofs.Common.{◌≡◌, ◌≢◌, ◌⊎◌, ℕ, List, [], ◌∷◌, Option, Some, IfSome, Result, Ok, Err, refl, sym, ◌∙◌, arith, inl, inr, ap, subst, None, ℤ}
use Rattle.rip_outside.specs.Files.{Files}
use Rattle.rip_outside.specs.Outputs.{Output, after_outputs}
use Rattle.rip_outside.specs.Causes.{NoneFell}
use Rattle.rip_commands.specs.Look.{Look}
use Rattle.rip_outside.proofs.FilesLaws.{if_told}
use Rattle.rip_outside.specs.declared.fault.ShelfCall.{ShelfCall}
use Rattle.rip_outside.specs.Crashes.{Outlook}
use Rattle.rip_outside.specs.declared.fault.ShelfCall.TheVariants.{Rename}
use Rattle.engine_steps.specs.Steps.{ComesToEnd, EndsWithCause, IsAnswered, Takes, compared}
use Rattle.engine_steps.specs.Outcome.{Outcome, Partly, refused, Leaves}
use Rattle.rip_commands.specs.Outcomes.{IsOutcomeOf, IsMostCompared, IsMostTaken}
use Rattle.rip_inputs.specs.Opening.{lengths_of}
use Rattle.engine_steps.specs.Comparing.{compared_names}
use Rattle.engine_search.specs.Agreement.{TakesCompared}
use Rattle.std.specs.FinMap.{empty}
use Rattle.rip_commands.specs.Ran.{Comes, FaultsOfCommand, IsTold, IsTrialRead, NeedsNoFile, NoneRose, Ran, TellsOf, ToldWithoutFiles, telling, wanting}
use Rattle.engine_steps.proofs.CrashingLaws.{safe_none}
use Rattle.engine_steps.proofs.Leaving.{stands_some}
use Rattle.rip_report.specs.Texts.{read_fault_line, refusal_line, write_fault_line}
use Rattle.column_map.specs.Columns.{IsOffset}
use Rattle.rip_words.specs.Command.{MayRunCommand, NamesMayStand, ReadsWords, TrialIsInRange, offset_in}
use Rattle.rip_words.specs.declared.Command.{Command}
use Rattle.rip_words.specs.declared.WordsFail.{WordsFail}
use Rattle.rip_words.specs.declared.WordsFail.TheVariants.{Usage as UsageFail}
use Rattle.rip_report.specs.declared.status.Status.{Status}
use Rattle.rip_report.specs.declared.status.Status.TheVariants.{Usage, ReadFault, WriteFault, Done, SinkFault, WantOfMemory}
use Rattle.engine_steps.specs.declared.steps.Answer.{Answer}
use Rattle.engine_steps.specs.declared.steps.Stop.{Stop}
use Rattle.engine_steps.specs.declared.steps.Stop.TheVariants.{Refused, ReadFault as ReadStop, WriteFault as WriteStop, Oom as WantStop}

-- an outcome writes or it doesn't
kept_or_written : (is : Outcome → Type 0) (files : Files) (now : Option Files) (wanted : Outcome) → is wanted → (outs : List Output) → wanted.outputs ≡ outs → now ≡ Some (after_outputs outs files)
    → (now ≡ Some files) ⊎ ((outcome : Outcome) × is outcome × (outcome.outputs ≢ []))
kept_or_written is files now wanted met [] outs_are held = inl held
kept_or_written is files now wanted met (out ∷ outs) outs_are held = inr (wanted, met, λ none. let no : out ∷ outs ≡ [] = sym outs_are ∙ none in cc)

-- a part that is written belongs to an outcome that writes
partly_written : (is : Outcome → Type 0) (renaming : Type 0) (old : Files) (now : Option Files) → Partly is renaming old now → (outcome : Outcome) × is outcome × (outcome.outputs ≢ [])
partly_written is renaming old now put = (put.0, put.1, stands_some put.0.outputs put.2.0 renaming old put.2.1 put.2.3)

-- at most so many bytes, where the most is told
pub takes_most : (h : Option Files) (most : Files → ℕ) (r : Result Answer Stop) (before now : ℕ) → IfSome h (λ files. Takes (most files) r before now)
    → IfSome h (λ files. (m : ℕ) → m ≡ most files → Takes m r before now)
takes_most None most r before now took = tt
takes_most (Some files) most r before now took = λ m is. rw is took

-- the same of a command on a rip and a record
pub takes_most_compared : (h : Option Files) (input rec : List ℕ) (given : Option ℤ) (r : Result Answer Stop) (before now : ℕ)
    → IfSome h (λ files. TakesCompared (compared input rec files) given 3 (lengths_of (compared_names input rec files) files) r before now)
    → IfSome h (λ files. (m : ℕ) → IsMostCompared input rec given files m → Takes m r before now)
takes_most_compared None input rec given r before now took = tt
takes_most_compared (Some files) input rec given r before now took = λ m is. rw is.2 (took is.0 is.1)

-- a command that calls no shelf takes nothing
pub takes_nothing : (most : ℕ) (r : Result Answer Stop) (taken : ℕ) → Takes most r taken taken
takes_nothing most (Ok answer) taken = omega arith
takes_nothing most (Err (Refused status)) taken = omega arith
takes_nothing most (Err (ReadStop call)) taken = tt
takes_nothing most (Err (WriteStop call)) taken = omega arith
takes_nothing most (Err WantStop) taken = omega arith

-- what the steps of a command came to
pub record CameTo (read : Result Command ℕ) (before now : Look) (came : Result Answer Stop) : Type 0 where
  pub leaves : IfSome before.held (λ files. Leaves (IsOutcomeOf read files) files came now.held)
  pub cause : EndsWithCause before.faults now.faults came
  pub reads : FaultsOfCommand read came
  pub taken : IfSome before.held (λ files. (most : ℕ) → IsMostTaken read files most → Takes most came before.taken now.taken)
  pub later : NoneFell before.faults now.faults
  pub trial : IsTrialRead read → now ≡ before

module _ (read : Result Command ℕ) (before now : Look) where
  ran_answer : (answer : Answer) → CameTo read before now (Ok answer) → Ran read before now answer
  ran_answer answer came = record {
    outcome = λ _. came.leaves;
    read_fault = λ call is. let no : ⊥ = rw is at came.cause in absurd no;
    write_fault = λ call is. let no : ⊥ = rw is at came.cause in absurd no;
    want_of_memory = λ is. let no : ⊥ = rw is at came.cause in absurd no;
    no_sink = λ is. let no : ⊥ = rw is at came.cause in no;
    unwritten = if_told before.held _ (λ files told. let left = rw told at came.leaves in kept_or_written (IsOutcomeOf read files) files now.held left.0 left.1 left.0.outputs refl left.4);
    completes = λ _. inr (if_told before.held _ (λ files told. let left = rw told at came.leaves in (left.0, left.1, left.2)));
    taken = λ _. came.taken;
    later = came.later;
    trial = came.trial;
  }

  ran_refused : (status : Status) → CameTo read before now (Err (Refused status)) → Ran read before now (telling status (refusal_line status))
  ran_refused status came = record {
    outcome = λ _. if_told before.held _ (λ files told. let left = rw told at came.leaves in (refused status, left.1, refl, refl, left.0));
    read_fault = λ call is. let no : ⊥ = rw is at came.cause in absurd no;
    write_fault = λ call is. let no : ⊥ = rw is at came.cause in absurd no;
    want_of_memory = λ is. let no : ⊥ = rw is at came.cause in absurd no;
    no_sink = λ is. let no : ⊥ = rw is at came.cause in no;
    unwritten = if_told before.held _ (λ files told. let left = rw told at came.leaves in inl left.0);
    completes = λ _. inr (if_told before.held _ (λ files told. let left = rw told at came.leaves in (refused status, left.1, refl)));
    taken = λ _. came.taken;
    later = came.later;
    trial = came.trial;
  }

  ran_wanting : (status : Status) → CameTo read before now (Err (Refused status)) → Ran read before now wanting
  ran_wanting status came = record {
    outcome = λ no. absurd no;
    read_fault = λ call is. let no : ⊥ = cc in absurd no;
    write_fault = λ call is. let no : ⊥ = cc in absurd no;
    want_of_memory = λ is. if_told before.held _ (λ files told. let left = rw told at came.leaves in inl left.0);
    no_sink = λ is. cc;
    unwritten = if_told before.held _ (λ files told. let left = rw told at came.leaves in inl left.0);
    completes = λ _. inl refl;
    taken = λ _. came.taken;
    later = came.later;
    trial = came.trial;
  }

  ran_read_stop : (call : ShelfCall) → CameTo read before now (Err (ReadStop call)) → Ran read before now (telling (ReadFault call) read_fault_line)
  ran_read_stop call came = record {
    outcome = λ no. absurd no;
    read_fault = λ other is. let same : call ≡ other = cc in rw (← same) (record { reads = came.cause.0; rose = came.cause.1; asked = came.reads; leaves = came.leaves }, refl);
    write_fault = λ other is. let no : ⊥ = cc in absurd no;
    want_of_memory = λ is. let no : ⊥ = cc in absurd no;
    no_sink = λ is. cc;
    unwritten = if_told before.held _ (λ files told. let left = rw told at came.leaves in elim left [ inl kept ↦ inl kept | inr put ↦ inr (partly_written (IsOutcomeOf read files) ⊥ files now.held put) ]);
    completes = λ none. absurd (none call came.cause.1);
    taken = λ none. absurd (none call came.cause.1);
    later = came.later;
    trial = came.trial;
  }

  ran_write_stop : (call : ShelfCall) → CameTo read before now (Err (WriteStop call)) → Ran read before now (telling (WriteFault call) write_fault_line)
  ran_write_stop call came = record {
    outcome = λ no. absurd no;
    read_fault = λ other is. let no : ⊥ = cc in absurd no;
    write_fault = λ other is. let same : call ≡ other = cc in rw (← same) (record { writes = came.cause.0; rose = came.cause.1; asked = came.reads; leaves = came.leaves }, refl);
    want_of_memory = λ is. let no : ⊥ = cc in absurd no;
    no_sink = λ is. cc;
    unwritten = if_told before.held _ (λ files told. let left = rw told at came.leaves in inr (partly_written (IsOutcomeOf read files) (call ≡ Rename) files now.held left));
    completes = λ none. absurd (none call came.cause.1);
    taken = λ none. absurd (none call came.cause.1);
    later = came.later;
    trial = came.trial;
  }

  ran_want_stop : CameTo read before now (Err WantStop) → Ran read before now wanting
  ran_want_stop came = record {
    outcome = λ no. absurd no;
    read_fault = λ call is. let no : ⊥ = cc in absurd no;
    write_fault = λ call is. let no : ⊥ = cc in absurd no;
    want_of_memory = λ is. came.leaves;
    no_sink = λ is. cc;
    unwritten = if_told before.held _ (λ files told. let left = rw told at came.leaves in elim left [ inl kept ↦ inl kept | inr put ↦ inr (partly_written (IsOutcomeOf read files) ⊥ files now.held put) ]);
    completes = λ _. inl refl;
    taken = λ _. came.taken;
    later = came.later;
    trial = came.trial;
  }

  -- What is told has what its steps came to.
  pub ran_of : (came : Result Answer Stop) (told : Answer) → CameTo read before now came → TellsOf came told → Ran read before now told
  ran_of (Ok answer) told came is = rw is (ran_answer answer came)
  ran_of (Err (Refused status)) told came is = elim is [ inl well ↦ rw well (ran_refused status came) | inr want ↦ rw want (ran_wanting status came) ]
  ran_of (Err (ReadStop call)) told came is = rw is (ran_read_stop call came)
  ran_of (Err (WriteStop call)) told came is = rw is (ran_write_stop call came)
  ran_of (Err WantStop) told came is = rw is (ran_want_stop came)

  -- and where no file is needed, it is the outcome's
  pub no_file_of : (came : Result Answer Stop) (told : Answer) → (NeedsNoFile read → Comes (IsOutcomeOf read empty) came) → TellsOf came told → ToldWithoutFiles read told
  no_file_of (Ok answer) told comes is answered none = rw is (comes none)
  no_file_of (Err (Refused status)) told comes is answered none = elim is [
    | inl well ↦ rw well (refused status, comes none, refl, refl)
    | inr want ↦ let no : ⊥ = rw want at answered in absurd no
  ]
  no_file_of (Err (ReadStop call)) told comes is answered none = let no : ⊥ = rw is at answered in absurd no
  no_file_of (Err (WriteStop call)) told comes is answered none = let no : ⊥ = rw is at answered in absurd no
  no_file_of (Err WantStop) told comes is answered none = let no : ⊥ = rw is at answered in absurd no

-- ---- nothing was done

-- for want of memory
pub ran_none : (read : Result Command ℕ) (before : Look) (told : Answer) → told ≡ wanting → Ran read before before told
ran_none read before told is = ran_of read before before (Err WantStop) told
    (record { leaves = if_told before.held _ (λ files same. inl same); cause = tt; reads = tt; taken = if_told before.held _ (λ files same most is. omega arith); later = λ call. omega arith; trial = λ _. refl }) is

pub no_file_none : (read : Result Command ℕ) (told : Answer) → told ≡ wanting → ToldWithoutFiles read told
no_file_none read told is answered none = let no : ⊥ = rw is at answered in absurd no

-- for words that are refused
pub ran_usage : (word : ℕ) (before : Look) (told : Answer) → (told ≡ telling (Usage word) (refusal_line (Usage word))) ⊎ (told ≡ wanting) → Ran (Err word) before before told
ran_usage word before told is = ran_of (Err word) before before (Err (Refused (Usage word))) told
    (record { leaves = if_told before.held _ (λ files same. (same, refl)); cause = tt; reads = tt; taken = if_told before.held _ (λ files same most is. omega arith); later = λ call. omega arith; trial = λ _. refl }) is

pub no_file_usage : (word : ℕ) (told : Answer) → (told ≡ telling (Usage word) (refusal_line (Usage word))) ⊎ (told ≡ wanting) → ToldWithoutFiles (Err word) told
no_file_usage word told is answered none = elim is [
  | inl well ↦ rw well (refused (Usage word), refl, refl, refl)
  | inr want ↦ let no : ⊥ = rw want at answered in absurd no
]

-- ---- what is told and answered

-- a command that told an answer came to its end
pub answered_came : (came : Result Answer Stop) (told : Answer) → TellsOf came told → IsAnswered told.status → ComesToEnd came
answered_came (Ok answer) told tells answered = tt
answered_came (Err (Refused status)) told tells answered = tt
answered_came (Err (ReadStop call)) told tells answered = rw tells at answered
answered_came (Err (WriteStop call)) told tells answered = rw tells at answered
answered_came (Err WantStop) told tells answered = rw tells at answered

-- a status is an answer, a fault or want of memory
pub status_kind : (s : Status) → IsAnswered s ⊎ ((call : ShelfCall) × (s ≡ ReadFault call)) ⊎ ((call : ShelfCall) × (s ≡ WriteFault call)) ⊎ (s ≡ SinkFault) ⊎ (s ≡ WantOfMemory)
status_kind (ReadFault call) = inr (inl (call, refl))
status_kind (WriteFault call) = inr (inr (inl (call, refl)))
status_kind SinkFault = inr (inr (inr (inl refl)))
status_kind WantOfMemory = inr (inr (inr (inr refl)))
status_kind _ = inl tt

-- where no call failed and no memory was wanting, a status is an answer
pub answered_unless : (read : Result Command ℕ) (before now : Look) (told : Answer) → Ran read before now told → NoneRose before now → told.status ≢ WantOfMemory → IsAnswered told.status
answered_unless read before now told ran none some = elim (status_kind told.status) [
  | inl answered ↦ answered
  | inr rest ↦ elim rest [
    | inl read_so ↦ absurd (none read_so.0 (ran.read_fault read_so.0 read_so.1).0.rose)
    | inr rest' ↦ elim rest' [
      | inl write_so ↦ absurd (none write_so.0 (ran.write_fault write_so.0 write_so.1).0.rose)
      | inr rest'' ↦ elim rest'' [ inl sink ↦ absurd (ran.no_sink sink) | inr want ↦ absurd (some want) ]
    ]
  ]
]

-- a command that was read and may be run
pub may_run : {E : Type 0} (r : Result Command E) → IfOk r (λ command. IfSome (offset_in command) IsOffset) → IfOk r TrialIsInRange → IfOk r NamesMayStand → IfOk r MayRunCommand
may_run (Ok command) offset trial names = record { offset = offset; trial = trial; names = names }
may_run (Err fail) offset trial names = tt

-- ---- the words of one command

-- what is read, where a command was, or a word breaks a rule
pub reads_command : (asked : Result Command WordsFail) (command : Command) (read : Result Command ℕ) → asked ≡ Ok command → ReadsWords asked read → read ≡ Ok command
reads_command asked command read was is = subst (λ (a : Result Command WordsFail). ReadsWords a read) was is

pub reads_usage : (asked : Result Command WordsFail) (word : ℕ) (read : Result Command ℕ) → asked ≡ Err (UsageFail word) → ReadsWords asked read → read ≡ Err word
reads_usage asked word read was is = subst (λ (a : Result Command WordsFail). ReadsWords a read) was is

-- nothing was done for want of memory
pub told_wanting : (read : Result Command ℕ) (before : Look) (outlook : Outlook) (told : Answer) → told ≡ wanting → IsTold read before before outlook outlook told
told_wanting read before outlook told is = record {
  ran = ran_none read before told is;
  crashes = safe_none _ _ _;
  no_file = no_file_none read told is;
  names = λ done. let clash : WantOfMemory ≡ Done = sym (ap (λ (a : Answer). a.status) is) ∙ done in let no : ⊥ = cc in absurd no;
}

-- nothing was done, for words that are refused
pub told_usage : (word : ℕ) (before : Look) (outlook : Outlook) (told : Answer) → (told ≡ telling (Usage word) (refusal_line (Usage word))) ⊎ (told ≡ wanting) → IsTold (Err word) before before outlook outlook told
told_usage word before outlook told is = record {
  ran = ran_usage word before told is;
  crashes = safe_none _ _ _;
  no_file = no_file_usage word told is;
  names = λ _. tt;
}
