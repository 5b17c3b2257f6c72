-- What follows of how a batch ends.
use Rattle.std.proofs.Common.{◌≡◌, ◌≢◌, ◌∙◌, ◌⊎◌, inl, inr, ℕ, Bool, true, false, cond, List, ◌++◌, length, Option, Result, Ok, Err, refl, sym, ap, subst, arith}
use Rattle.std.specs.Prelude.{◌==◌}
use Rattle.std.specs.Option.{option_to_list}
use Rattle.std.proofs.lemmas.List.{append-nil}
use Rattle.rip_outside.specs.Causes.{IsReadCall, Rose}
use Rattle.rip_outside.specs.Crashes.{Outlook}
use Rattle.rip_outside.specs.declared.fault.ShelfCall.{ShelfCall}
use Rattle.rip_outside.proofs.FilesLaws.{if_told, when_told}
use Rattle.rip_report.specs.Texts.{read_fault_line}
use Rattle.rip_report.specs.declared.status.Status.{Status}
use Rattle.rip_report.specs.declared.status.Status.TheVariants.{Done, BatchFailed, ReadFault, SinkFault, WantOfMemory, WriteFault}
use Rattle.engine_steps.specs.Outcome.{refused}
use Rattle.engine_steps.specs.Steps.{IsStepRefusal}
use Rattle.engine_steps.specs.declared.steps.Answer.{Answer}
use Rattle.rip_commands.specs.Printing.{Printed, Wrote}
use Rattle.rip_commands.specs.Ran.{NoneRose}
use Rattle.rip_commands.specs.Seen.{Seen, look_of}
use Rattle.cmd_batch.specs.Batch.{BatchDecides, BatchRan, BatchTakes, DiscsRan, EndsWhole, GoesToTheEnd, IsMostOfListed, NoDiscRan, OwnFaults, RanInOrder}
use Rattle.cmd_batch.specs.BatchOutcome.{IsBatchOutcome, batch_status, batched, failed_of, last_line, discs_listed, parts_from, answers_of}
use Rattle.cmd_batch.proofs.ChainLaws.{none_rose_in}
use Rattle.cmd_batch.proofs.OutcomeLaws.{came_of}
use Rattle.cmd_batch.proofs.TakenLaws.{takes_in_order}

-- ---- statuses

-- the status of discs is no fault
counted_status : (failed : ℕ) → (batch_status failed ≡ Done) ⊎ (batch_status failed ≡ BatchFailed failed)
counted_status failed = by (failed == 0)
  where
    by : (none : Bool) → (cond none Done (BatchFailed failed) ≡ Done) ⊎ (cond none Done (BatchFailed failed) ≡ BatchFailed failed)
    by true = inl refl
    by false = inr refl

-- neither a fault of reading nor one of writing
abbrev IsNoFault : Status → Type 0
IsNoFault status = (call : ShelfCall) → (status ≢ ReadFault call) × (status ≢ WriteFault call)

discs_no_fault : (discs : List (List (List ℕ))) (before after : Seen) (outlook later : Outlook) (status : Status) → DiscsRan discs before after outlook later status → IsNoFault status
discs_no_fault discs before after outlook later status ran call = elim ran.ends [
  | inl whole ↦ elim (counted_status (failed_of ran.went)) [
    | inl done ↦ let is : status ≡ Done = whole.1 ∙ done in ((λ e. let no : Done ≡ ReadFault call = sym is ∙ e in cc), (λ e. let no : Done ≡ WriteFault call = sym is ∙ e in cc))
    | inr failed ↦
        let is : status ≡ BatchFailed (failed_of ran.went) = whole.1 ∙ failed in
        ((λ e. let no : BatchFailed (failed_of ran.went) ≡ ReadFault call = sym is ∙ e in cc), (λ e. let no : BatchFailed (failed_of ran.went) ≡ WriteFault call = sym is ∙ e in cc))
  ]
  | inr others ↦ elim others [
    | inl sink ↦ ((λ e. let no : SinkFault ≡ ReadFault call = sym sink.0 ∙ e in cc), (λ e. let no : SinkFault ≡ WriteFault call = sym sink.0 ∙ e in cc))
    | inr want ↦ ((λ e. let no : WantOfMemory ≡ ReadFault call = sym want.0 ∙ e in cc), (λ e. let no : WantOfMemory ≡ WriteFault call = sym want.0 ∙ e in cc))
  ]
]

-- what is printed of a status is answered, unless the sink failed or memory was wanting
printed_so : (told : Answer) (old new : Option (List ℕ)) (before now : ℕ) (status : Status) → Printed told old new before now status → (Rose before now → ⊥) → status ≢ WantOfMemory
    → (status ≡ told.status) × Wrote told.text old new
printed_so told old new before now status printed sound some = elim printed [
  | inl want ↦ absurd (some want.1)
  | inr p ↦ elim p.1 [ inl r ↦ r | inr r ↦ absurd (sound r.1) ]
]

-- which status may be answered
printed_status : (told : Answer) (old new : Option (List ℕ)) (before now : ℕ) (status : Status) → Printed told old new before now status
    → (status ≡ WantOfMemory) ⊎ ((status ≡ told.status) × Wrote told.text old new) ⊎ (status ≡ SinkFault)
printed_status told old new before now status printed = elim printed [
  | inl want ↦ inl want.1
  | inr p ↦ elim p.1 [ inl r ↦ inr (inl r) | inr r ↦ inr (inr r.0) ]
]

-- ---- the batch's own faults

module _ (list : List ℕ) (before after : Seen) (outlook later : Outlook) (status : Status) where
  -- why no list was read is a refusal, a fault of reading or want of memory
  stopped_faults : NoDiscRan list before after outlook later status → OwnFaults before after status
  stopped_faults none = record { never_writing = writing; reading = reading }
    where
      writing : (call : ShelfCall) → status ≢ WriteFault call
      writing call e = elim (printed_status none.told _ _ _ _ status none.printed) [
        | inl want ↦ let no : WantOfMemory ≡ WriteFault call = sym want ∙ e in let bad : ⊥ = cc in absurd bad
        | inr rest ↦ elim rest [
          | inl told ↦ elim none.stops [
            | inl refused ↦ let is : none.told.status ≡ WriteFault call = sym told.0 ∙ e in absurd (subst IsStepRefusal is refused.1)
            | inr rest' ↦ elim rest' [
              | inl fault ↦ let no : ReadFault fault.0 ≡ WriteFault call = sym (ap (λ (a : Answer). a.status) fault.3) ∙ sym told.0 ∙ e in let bad : ⊥ = cc in absurd bad
              | inr want ↦ let no : WantOfMemory ≡ WriteFault call = sym want ∙ sym told.0 ∙ e in let bad : ⊥ = cc in absurd bad
            ]
          ]
          | inr sink ↦ let no : SinkFault ≡ WriteFault call = sym sink ∙ e in let bad : ⊥ = cc in absurd bad
        ]
      ]

      reading : (call : ShelfCall) → status ≡ ReadFault call → IsReadCall call × Rose (before.faults call) (after.faults call) × (after.held ≡ before.held) × Wrote read_fault_line before.told after.told
      reading call e = elim (printed_status none.told _ _ _ _ status none.printed) [
        | inl want ↦ let no : WantOfMemory ≡ ReadFault call = sym want ∙ e in let bad : ⊥ = cc in absurd bad
        | inr rest ↦ elim rest [
          | inl told ↦ elim none.stops [
            | inl refused ↦ let is : none.told.status ≡ ReadFault call = sym told.0 ∙ e in absurd (subst IsStepRefusal is refused.1)
            | inr rest' ↦ elim rest' [
              | inl fault ↦
                  let same : ReadFault fault.0 ≡ ReadFault call = sym (ap (λ (a : Answer). a.status) fault.3) ∙ sym told.0 ∙ e in
                  let one : fault.0 ≡ call = cc in (
                    subst IsReadCall one fault.1,
                    subst (λ (c : ShelfCall). Rose (before.faults c) (after.faults c)) one fault.2,
                    none.same,
                    subst (λ (text : List ℕ). Wrote text before.told after.told) (ap (λ (a : Answer). a.text) fault.3) told.1,
                  )
              | inr want ↦ let no : WantOfMemory ≡ ReadFault call = sym want ∙ sym told.0 ∙ e in let bad : ⊥ = cc in absurd bad
            ]
          ]
          | inr sink ↦ let no : SinkFault ≡ ReadFault call = sym sink ∙ e in let bad : ⊥ = cc in absurd bad
        ]
      ]

  pub own_faults : BatchRan list before after outlook later status → OwnFaults before after status
  own_faults (inl none) = stopped_faults none
  own_faults (inr ran) =
      let no = discs_no_fault ran.discs ran.start after outlook later status ran.ran in
      record { never_writing = λ call. (no call).1; reading = λ call e. absurd ((no call).0 e) }

  -- ---- to the end

  -- where the sink didn't fail and no memory was wanting, all went out
  whole_so : (discs : List (List (List ℕ))) (start : Seen) → (ran : DiscsRan discs start after outlook later status) → (Rose start.sink_faults after.sink_faults → ⊥) → status ≢ WantOfMemory
      → EndsWhole ran.went ran.next start after status
  whole_so discs start ran sound some = elim ran.ends [
    | inl whole ↦ whole
    | inr others ↦ elim others [ inl sink ↦ absurd (sound sink.1) | inr want ↦ absurd (some want.0) ]
  ]

  pub to_the_end : BatchRan list before after outlook later status → GoesToTheEnd list before after status
  to_the_end (inl none) sound some unfailed = if_told before.held _ (λ files told discs reads.
      let so = printed_so none.told _ _ _ _ status none.printed sound some in
      let bad : ⊥ = elim none.stops [
        | inl refused ↦ let clash : Ok discs ≡ Err none.told.status = sym reads ∙ when_told before.held _ refused.0 files told in let no : ⊥ = cc in no
        | inr rest ↦ elim rest [ inl fault ↦ unfailed fault.0 (so.0 ∙ ap (λ (a : Answer). a.status) fault.3) | inr want ↦ some (so.0 ∙ want) ]
      ] in
      absurd bad)
  to_the_end (inr ran) sound some unfailed = if_told before.held _ (λ files told discs reads.
      let sound' : Rose ran.start.sink_faults after.sink_faults → ⊥ = λ rose. sound (subst (λ (n : ℕ). Rose n after.sink_faults) ran.unprinted.1 rose) in
      let whole = whole_so ran.discs ran.start ran.ran sound' some in
      let same : ran.discs ≡ discs = let e : Ok ran.discs ≡ Ok discs = sym (when_told before.held _ ran.read files told) ∙ reads in cc in
      let all : ran.ran.went ++ option_to_list ran.ran.next ≡ ran.ran.went = rw whole.0 (append-nil ran.ran.went) in
      let order : RanInOrder discs (look_of ran.start) (look_of after) ran.ran.went = subst (λ (d : List (List (List ℕ))). RanInOrder d (look_of ran.start) (look_of after) ran.ran.went) same (subst (RanInOrder ran.discs (look_of ran.start) (look_of after)) all ran.ran.ran) in (
        look_of ran.start,
        ran.ran.went,
        order,
        ran.ran.whole whole.0 ∙ ap length same,
        whole.1,
        subst (λ (old : Option (List ℕ)). Wrote (parts_from 1 ran.ran.went ++ last_line ran.ran.went) old after.told) ran.unprinted.0 whole.2,
      ))

  -- ---- the outcome

  pub decides : BatchRan list before after outlook later status → BatchDecides list before after status
  decides (inl none) unrisen sound some = if_told before.held _ (λ files told.
      let so = printed_so none.told _ _ _ _ status none.printed sound some in
      elim none.stops [
        | inl stop ↦
            let is : discs_listed list files ≡ Err none.told.status = when_told before.held _ stop.0 files told in
            let text : Wrote (refused none.told.status).text before.told after.told = subst (λ (t : List ℕ). Wrote t before.told after.told) stop.2 so.1 in
            let outcome : IsBatchOutcome list files (refused none.told.status) = rw is refl in
            (refused none.told.status, outcome, sym so.0, none.same ∙ told, text)
        | inr rest ↦ elim rest [ inl fault ↦ absurd (unrisen fault.0 fault.2) | inr want ↦ absurd (some (so.0 ∙ want)) ]
      ])
  decides (inr ran) unrisen sound some = if_told before.held _ (λ files told.
      let sound' : Rose ran.start.sink_faults after.sink_faults → ⊥ = λ rose. sound (subst (λ (n : ℕ). Rose n after.sink_faults) ran.unprinted.1 rose) in
      let whole = whole_so ran.discs ran.start ran.ran sound' some in
      let all : ran.ran.went ++ option_to_list ran.ran.next ≡ ran.ran.went = rw whole.0 (append-nil ran.ran.went) in
      let order : RanInOrder ran.discs (look_of ran.start) (look_of after) ran.ran.went = subst (RanInOrder ran.discs (look_of ran.start) (look_of after)) all ran.ran.ran in
      let quiet : NoneRose (look_of ran.start) (look_of after) = none_rose_in (look_of before) (look_of ran.start) (look_of after) (look_of after) ran.none_fell (λ call. omega arith) unrisen in
      let came = came_of ran.discs (look_of ran.start) (look_of after) ran.ran.went order (ran.ran.whole whole.0) quiet ran.ran.told files (ran.same ∙ told) in
      let is : discs_listed list files ≡ Ok ran.discs = when_told before.held _ ran.read files told in
      let outcome : IsBatchOutcome list files (batched came.outcomes) = rw is (came.outcomes, came.are, refl) in
      let status_is : batch_status (failed_of (answers_of came.outcomes)) ≡ status = ap (λ (t : List Answer). batch_status (failed_of t)) came.tell ∙ sym whole.1 in
      let text : Wrote (parts_from 1 (answers_of came.outcomes) ++ last_line (answers_of came.outcomes)) before.told after.told =
      subst (λ (t : List Answer). Wrote (parts_from 1 t ++ last_line t) before.told after.told) (sym came.tell) (subst (λ (old : Option (List ℕ)). Wrote (parts_from 1 ran.ran.went ++ last_line ran.ran.went) old after.told) ran.unprinted.0 whole.2) in
      (batched came.outcomes, outcome, status_is, came.leave, text))

  -- ---- bytes taken

  pub takes : BatchRan list before after outlook later status → BatchTakes list before after
  takes (inl none) unrisen = if_told before.held _ (λ files told most is. let own = when_told before.held _ (none.taken unrisen) files told in omega (arith, own))
  takes (inr ran) unrisen = if_told before.held _ (λ files told most is.
      let reads : discs_listed list files ≡ Ok ran.discs = when_told before.held _ ran.read files told in
      let quiet : NoneRose (look_of ran.start) (look_of after) = none_rose_in (look_of before) (look_of ran.start) (look_of after) (look_of after) ran.none_fell (λ call. omega arith) unrisen in
      let own = when_told before.held _ ran.taken files told in
      let most_is = subst (λ (r : Result (List (List (List ℕ))) Status). IsMostOfListed r files most) reads is in
      let discs = takes_in_order ran.discs (look_of ran.start) (look_of after) ran.ran.went ran.ran.next ran.ran.ran quiet ran.ran.told files (ran.same ∙ told) most most_is in
      omega (arith, own, discs))
