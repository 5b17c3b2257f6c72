-- What a stop may leave of the discs of a list.
use Rattle.std.proofs.Common.{◌≡◌, ◌≢◌, ◌∙◌, inl, inr, ℕ, List, [], ◌∷◌, ◌++◌, length, Option, None, Some, Result, Ok, Err, refl, sym, ap, subst, arith}
use Rattle.std.specs.Prelude.{All, slice_get}
use Rattle.std.specs.Option.{option_to_list}
use Rattle.std.proofs.lemmas.List.Elements.{All-cons, All-head, All-nil, All-tail}
use Rattle.rip_outside.specs.Crashes.{Outlook, Rests, StoresWhole, TellsHeld, WhereForetold}
use Rattle.rip_outside.specs.Files.{Files}
use Rattle.rip_outside.specs.Outputs.{after_outputs}
use Rattle.rip_outside.proofs.CrashLaws.{each_twice, each_weaker, elapses_twice, foretold_thrice}
use Rattle.rip_outside.proofs.FilesLaws.{when_told}
use Rattle.rip_outside.proofs.StoreLaws.{told_rests_stores, told_rests_then_stores, told_stores_otherwise}
use Rattle.rip_words.specs.Command.{command_reading}
use Rattle.rip_report.specs.declared.status.Status.{Status}
use Rattle.rip_report.specs.declared.status.Status.TheVariants.{WantOfMemory}
use Rattle.engine_steps.specs.Crashing.{CrashLeaves, CrashSafe}
use Rattle.engine_steps.specs.Steps.{IsAnswered}
use Rattle.engine_steps.specs.declared.steps.Answer.{Answer}
use Rattle.rip_commands.specs.Look.{Look}
use Rattle.rip_commands.specs.Outcomes.{IsOutcomeOf}
use Rattle.rip_commands.specs.Ran.{NoneRose}
use Rattle.rip_commands.specs.Seen.{Seen, look_of}
use Rattle.rip_commands.proofs.RanLaws.{answered_unless}
use Rattle.cmd_batch.specs.Batch.{BatchRan, BatchSurvives, DiscsRan, RanInOrder, StopLeaves, StopLeavesListed}
use Rattle.cmd_batch.specs.BatchOutcome.{discs_listed}
use Rattle.cmd_batch.proofs.ChainLaws.{none_fell, none_rose_in}

-- it was neither a fault nor want of memory that ended the disc that told this
abbrev pub Answered : Answer → Type 0
Answered told = IsAnswered told.status

-- a stop may leave all as it was
pub stop_none : (discs : List (List (List ℕ))) (files : Files) → StopLeaves discs files files
stop_none [] files = refl
stop_none (words ∷ rest) files = inl (inl refl)

stop_none_listed : (listed : Result (List (List (List ℕ))) Status) (files : Files) → StopLeavesListed listed files files
stop_none_listed (Err status) files = refl
stop_none_listed (Ok discs) files = stop_none discs files

-- discs that ran after calls that only read
pub after_rests : (discs : List (List (List ℕ))) (before after : Seen) (o0 o1 o2 : Outlook) (status : Status) → WhereForetold Rests o0 o1 → DiscsRan discs before after o1 o2 status → DiscsRan discs before after o0 o2 status
after_rests discs before after o0 o1 o2 status rests ran = record {
  went = ran.went;
  next = ran.next;
  ran = ran.ran;
  told = ran.told;
  whole = ran.whole;
  ends = ran.ends;
  survives = λ all. told_rests_then_stores (StopLeaves discs) (stop_none discs) (ran.next ≡ None) o0 o1 o2 rests (ran.survives all);
}

-- some first discs came to their outcomes, and this is left of the next
pub stop_more : (discs : List (List (List ℕ))) (before mid : Look) (went : List Answer) (words : List (List ℕ)) → RanInOrder discs before mid went → All Answered went
    → slice_get discs (length went) ≡ Some words → (files now left : Files) → before.held ≡ Some files → mid.held ≡ Some now
    → CrashLeaves (IsOutcomeOf (command_reading words) now) now left → StopLeaves discs files left
stop_more [] before mid [] words order answered here files now left held held_now leaves = cc
stop_more (first ∷ rest) before mid [] words order answered here files now left held held_now leaves =
    let same : words ≡ first = cc in
    let one : now ≡ files = let e : Some now ≡ Some files = sym held_now ∙ ap (λ (l : Look). l.held) order ∙ held in cc in
    inl (subst (λ (w : List (List ℕ)). CrashLeaves (IsOutcomeOf (command_reading w) files) files left) same (subst (λ (f : Files). CrashLeaves (IsOutcomeOf (command_reading words) f) f left) one leaves))
stop_more [] before mid (told ∷ went) words order answered here files now left held held_now leaves = absurd order
stop_more (first ∷ rest) before mid (told ∷ went) words order answered here files now left held held_now leaves =
    let came = when_told before.held _ (order.1.outcome (All-head Answered told went answered)) files held in
    inr (came.0, came.1, stop_more rest order.0 mid went words order.2 (All-tail Answered told went answered) here (after_outputs came.0.outputs files) now left came.4 held_now leaves)

-- the discs so far survived, and so did the next
pub survives_next : (discs : List (List (List ℕ))) (before mid : Look) (held_after : Option Files) (went : List Answer) (words : List (List ℕ)) (well well' : Type 0) (o0 o1 o2 : Outlook)
    → RanInOrder discs before mid went → All Answered went → slice_get discs (length went) ≡ Some words
    → TellsHeld before.held o0 → TellsHeld mid.held o1 → TellsHeld held_after o2 → (well' → well)
    → WhereForetold (StoresWhole (StopLeaves discs) (Unit {0})) o0 o1 → CrashSafe (IsOutcomeOf (command_reading words)) well o1 o2 → WhereForetold (StoresWhole (StopLeaves discs) well') o0 o2
survives_next discs before mid held_after went words well well' o0 o1 o2 order answered here t0 t1 t2 goes so_far safe =
    foretold_thrice (StoresWhole (StopLeaves discs) (Unit {0})) (StoresWhole (λ old left. CrashLeaves (IsOutcomeOf (command_reading words) old) old left) well) (StoresWhole (StopLeaves discs) well')
    before.held mid.held held_after o0 o1 o2 t0 t1 t2 so_far safe
    (λ a b c is0 is1 is2 first second. record {
      elapses = elapses_twice a b c first.elapses second.elapses;
      moments = λ settled. each_twice (StopLeaves discs a.files) a b c first.elapses second.elapses (first.moments settled)
          (each_weaker (CrashLeaves (IsOutcomeOf (command_reading words) b.files) b.files) (StopLeaves discs a.files) b c (second.moments (first.settled settled tt))
          (λ left leaves. stop_more discs before mid went words order answered here a.files b.files left is0 is1 leaves));
      settled = λ settled w. second.settled (first.settled settled tt) (goes w);
    })

-- all of them, and the last
pub answered_apart : (went : List Answer) (told : Answer) → All Answered (went ++ told ∷ []) → All Answered went × Answered told
answered_apart [] told all = (All-nil Answered, All-head Answered told [] all)
answered_apart (one ∷ went) told all =
    let rest = answered_apart went told (All-tail Answered one (went ++ told ∷ []) all) in
    (All-cons Answered one went (All-head Answered one (went ++ told ∷ []) all) rest.0, rest.1)

-- where no call failed, those whose parts went out came to an answer
all_answered : (discs : List (List (List ℕ))) (before after : Look) (went more : List Answer) → RanInOrder discs before after (went ++ more) → NoneRose before after
    → All (λ (told : Answer). told.status ≢ WantOfMemory) went → All Answered went
all_answered discs before after [] more order none some = All-nil Answered
all_answered [] before after (told ∷ went) more order none some = absurd order
all_answered (words ∷ rest) before after (told ∷ went) more order none some =
    let mid = order.0 in
    let fell = none_fell rest mid after (went ++ more) order.2 in
    let here : NoneRose before mid = none_rose_in before before mid after (λ call. omega arith) fell none in
    let there : NoneRose mid after = none_rose_in before mid after after order.1.later (λ call. omega arith) none in
    All-cons Answered told went (answered_unless (command_reading words) before mid told order.1 here (All-head (λ (t : Answer). t.status ≢ WantOfMemory) told went some))
    (all_answered rest mid after went more order.2 there (All-tail (λ (t : Answer). t.status ≢ WantOfMemory) told went some))

-- a batch with an answer has no disc left
none_next : (discs : List (List (List ℕ))) (before after : Seen) (outlook later : Outlook) (status : Status) → (ran : DiscsRan discs before after outlook later status) → IsAnswered status → ran.next ≡ None
none_next discs before after outlook later status ran answered = elim ran.ends [
  | inl whole ↦ whole.0
  | inr others ↦ elim others [
    | inl sink ↦ absurd (subst IsAnswered sink.0 answered)
    | inr want ↦ absurd (subst IsAnswered want.0 answered)
  ]
]

module _ (list : List ℕ) (before after : Seen) (outlook later : Outlook) (status : Status) (t0 : TellsHeld before.held outlook) (t1 : TellsHeld after.held later) where
  pub survives : BatchRan list before after outlook later status → BatchSurvives list before after outlook later status
  survives (inl none) unrisen =
      told_rests_stores (λ old left. StopLeavesListed (discs_listed list old) old left) (λ files. stop_none_listed (discs_listed list files) files) (IsAnswered status) outlook later none.rests
  survives (inr ran) unrisen =
      let quiet : NoneRose (look_of ran.start) (look_of after) = none_rose_in (look_of before) (look_of ran.start) (look_of after) (look_of after) ran.none_fell (λ call. omega arith) unrisen in
      let answered = all_answered ran.discs (look_of ran.start) (look_of after) ran.ran.went (option_to_list ran.ran.next) ran.ran.ran quiet ran.ran.told in
      told_stores_otherwise (StopLeaves ran.discs) (λ old left. StopLeavesListed (discs_listed list old) old left) (ran.ran.next ≡ None) (IsAnswered status) before.held after.held outlook later t0 t1
      (λ files told left leaves. let reads : discs_listed list files ≡ Ok ran.discs = when_told before.held _ ran.read files told in rw reads leaves)
      (none_next ran.discs ran.start after outlook later status ran.ran) (ran.ran.survives answered)
