-- The discs that ran so far, and how they end.
use Rattle.std.proofs.Common.{◌≡◌, ◌≢◌, ◌∙◌, ◌⊎◌, inl, inr, ℕ, ◌+◌, ◌<◌, ◌≤◌, cond, List, [], ◌∷◌, ◌++◌, length, take, get_or, None, Some, Ok, Err, refl, sym, ap, arith}
use Rattle.std.specs.Prelude.{All, slice_get}
use Rattle.std.proofs.lemmas.List.{append-nil, length-append}
use Rattle.std.proofs.lemmas.List.Elements.{All-append, All-cons, All-nil}
use Rattle.std.proofs.lemmas.Option.{slice_get-get_or}
use Rattle.rip_outside.specs.Crashes.{Outlook, StoresWhole, TellsHeld, WhereForetold}
use Rattle.rip_outside.proofs.CrashLaws.{foretold_weaker, told_rests}
use Rattle.rip_outside.proofs.StoreLaws.{stores_otherwise, told_rests_stores}
use Rattle.rip_report.specs.Texts.{batch_line}
use Rattle.rip_report.specs.declared.status.Status.{Status}
use Rattle.rip_report.specs.declared.status.Status.TheVariants.{WantOfMemory}
use Rattle.engine_steps.specs.declared.steps.Answer.{Answer}
use Rattle.rip_commands.specs.Printing.{Wrote}
use Rattle.rip_commands.specs.Seen.{Seen, look_of}
use Rattle.cmd_batch.specs.Batch.{DiscsRan, EndsInSink, EndsWanting, EndsWhole, RanInOrder, StopLeaves, next_text}
use Rattle.cmd_batch.specs.BatchOutcome.{batch_status, failed_of, is_done, last_line, parts_from}
use Rattle.cmd_batch.specs.Inner.{PutsLast, PutsPart, RanSafely, part_of_disc}
use Rattle.cmd_batch.proofs.ChainLaws.{ran_more}
use Rattle.cmd_batch.proofs.PartLaws.{failed_more, parts_more, wrote_more, wrote_none}
use Rattle.cmd_batch.proofs.StopLaws.{Answered, answered_apart, stop_none, survives_next}

-- no value is none
some_none : (told : Answer) → Some told ≡ None → ⊥
some_none told is = cc

-- so many discs ran, of which so many weren't done, and the part of each went out
pub record SoFar (discs : List (List (List ℕ))) (before now : Seen) (outlook reached : Outlook) (index failed : ℕ) : Type 0 where
  pub went : List Answer
  pub ran : RanInOrder discs (look_of before) (look_of now) went
  pub told : All (λ (told : Answer). told.status ≢ WantOfMemory) went
  pub count : length went ≡ index
  pub failures : failed_of went ≡ failed
  pub put : Wrote (parts_from 1 went) before.told now.told
  pub later : before.sink_faults ≤ now.sink_faults
  pub survives : All Answered went → WhereForetold (StoresWhole (StopLeaves discs) (Unit {0})) outlook reached

-- none ran
pub none_ran : (discs : List (List (List ℕ))) (before : Seen) (outlook : Outlook) → SoFar discs before before outlook outlook 0 0
none_ran discs before outlook = record {
  went = [];
  ran = refl;
  told = All-nil _;
  count = refl;
  failures = refl;
  put = wrote_none before.told;
  later = omega arith;
  survives = λ _. told_rests_stores (StopLeaves discs) (stop_none discs) (Unit {0}) outlook outlook (told_rests outlook);
}

module _ (discs : List (List (List ℕ))) (before mid : Seen) (o0 o1 : Outlook) (t0 : TellsHeld before.held o0) (t1 : TellsHeld mid.held o1) (index failed : ℕ) (so_far : SoFar discs before mid o0 o1 index failed)
    (words : List (List ℕ)) (below : index < length discs) (here : words ≡ get_or discs index words) where
  -- the next disc is there
  next_here : slice_get discs (length so_far.went) ≡ Some words
  next_here = rw so_far.count (slice_get-get_or discs index words below ∙ ap Some (sym here))

  number_is : 1 + length so_far.went ≡ index + 1
  number_is = omega (arith, so_far.count)

  -- the next disc ran, and its part went out
  pub next_went : (now : Seen) (o2 : Outlook) → TellsHeld now.held o2 → (told : Answer) → RanSafely words mid now o1 o2 told
      → PutsPart (index + 1) told mid.told now.told mid.sink_faults now.sink_faults (Ok tt) → mid.sink_faults ≤ now.sink_faults → SoFar discs before now o0 o2 (index + 1) (failed + cond (is_done told.status) 0 1)
  next_went now o2 t2 told ran put later =
      let text = parts_more 1 so_far.went told ∙ ap (λ n. parts_from 1 so_far.went ++ part_of_disc n told) number_is in
      record {
        went = so_far.went ++ told ∷ [];
        ran = ran_more discs (look_of before) (look_of mid) (look_of now) so_far.went words told so_far.ran next_here ran.0;
        told = All-append (λ (t : Answer). t.status ≢ WantOfMemory) so_far.went (told ∷ []) so_far.told (All-cons (λ (t : Answer). t.status ≢ WantOfMemory) told [] put.0 (All-nil (λ (t : Answer). t.status ≢ WantOfMemory)));
        count = omega (arith, length-append so_far.went (told ∷ []), so_far.count);
        failures = failed_more so_far.went told ∙ ap (λ n. n + cond (is_done told.status) 0 1) so_far.failures;
        put = rw text (wrote_more (parts_from 1 so_far.went) (part_of_disc (index + 1) told) before.told mid.told now.told so_far.put put.1);
        later = omega (arith, so_far.later, later);
        survives = λ all.
            let apart = answered_apart so_far.went told all in
            survives_next discs (look_of before) (look_of mid) now.held so_far.went words (Answered told) (Unit {0}) o0 o1 o2 so_far.ran apart.0 next_here t0 t1 t2 (λ _. apart.1) (so_far.survives apart.0) ran.1;
      }

  -- the next disc ran, and ended the batch
  pub next_ended : (now : Seen) (o2 : Outlook) → TellsHeld now.held o2 → (told : Answer) (status : Status) → RanSafely words mid now o1 o2 told
      → PutsPart (index + 1) told mid.told now.told mid.sink_faults now.sink_faults (Err status) → DiscsRan discs before now o0 o2 status
  next_ended now o2 t2 told status ran put = record {
    went = so_far.went;
    next = Some told;
    ran = ran_more discs (look_of before) (look_of mid) (look_of now) so_far.went words told so_far.ran next_here ran.0;
    told = so_far.told;
    whole = λ no. cc;
    ends = inr (by put);
    survives = λ all. survives_next discs (look_of before) (look_of mid) now.held so_far.went words (Answered told) (Some told ≡ None) o0 o1 o2 so_far.ran all next_here t0 t1 t2 (λ is. absurd (some_none told is)) (so_far.survives all) ran.1;
  }
    where
      by : PutsPart (index + 1) told mid.told now.told mid.sink_faults now.sink_faults (Err status) → EndsInSink so_far.went (Some told) before now status ⊎ EndsWanting so_far.went (Some told) before now status
      by (inl sink) =
          let text : Wrote (take sink.3.0 (next_text so_far.went (Some told))) mid.told now.told = let same : length so_far.went + 1 ≡ index + 1 = omega (arith, so_far.count) in rw same sink.3.1 in
          inl (sink.0, omega (arith, so_far.later, sink.2), sink.1, (sink.3.0, wrote_more (parts_from 1 so_far.went) (take sink.3.0 (next_text so_far.went (Some told))) before.told mid.told now.told so_far.put text))
      by (inr want) = inr (want.0, rw want.1 so_far.put)

-- all ran
pub all_ran : (discs : List (List (List ℕ))) (before mid now : Seen) (outlook reached : Outlook) (failed : ℕ) (status : Status) → SoFar discs before mid outlook reached (length discs) failed
    → look_of now ≡ look_of mid → PutsLast (length discs) failed mid.told now.told mid.sink_faults now.sink_faults status → DiscsRan discs before now outlook reached status
all_ran discs before mid now outlook reached failed status so_far same put = record {
  went = so_far.went;
  next = None;
  ran = rw (append-nil so_far.went, same) so_far.ran;
  told = so_far.told;
  whole = λ _. so_far.count;
  ends = by put;
  survives = λ all. foretold_weaker (StoresWhole (StopLeaves discs) (Unit {0})) (StoresWhole (StopLeaves discs) (None ≡ None)) outlook reached (so_far.survives all)
      (λ a b r. stores_otherwise (StopLeaves discs) (StopLeaves discs) (Unit {0}) (None ≡ None) a b (λ left l. l) (λ _. tt) r);
}
  where
    line : batch_line (length discs) failed ≡ last_line so_far.went
    line = rw (so_far.count, so_far.failures) refl

    by : PutsLast (length discs) failed mid.told now.told mid.sink_faults now.sink_faults status
        → EndsWhole so_far.went None before now status ⊎ EndsInSink so_far.went None before now status ⊎ EndsWanting so_far.went None before now status
    by (inl whole) = inl (refl, whole.0 ∙ ap batch_status (sym so_far.failures), wrote_more (parts_from 1 so_far.went) (last_line so_far.went) before.told mid.told now.told so_far.put (rw (← line) whole.1))
    by (inr (inl sink)) = inr (inl (sink.0, omega (arith, so_far.later, sink.1), tt, (sink.2.0, wrote_more (parts_from 1 so_far.went) (take sink.2.0 (last_line so_far.went)) before.told mid.told now.told so_far.put (rw (← line) sink.2.1))))
    by (inr (inr want)) = inr (inr (want.0, rw want.1 so_far.put))
