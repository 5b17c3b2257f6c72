-- Faults of discs, counted.
use Rattle.std.proofs.Common.{◌≡◌, ◌⊎◌, inl, inr, ℕ, ◌+◌, ◌^◌, ◌-◌, ◌≤◌, Bool, true, false, cond, List, [], ◌∷◌, length, refl, arith}
use Rattle.std.specs.Prelude.{filter, nat_le}
use Rattle.std.proofs.lemmas.Bool.{leb-false, leb-true}
use Rattle.rip_outside.specs.Causes.{NoneFell, Rose}
use Rattle.rip_outside.specs.declared.fault.ShelfCall.{ShelfCall}
use Rattle.rip_outside.specs.declared.fault.ShelfCall.TheVariants.{Size, ReadAt, Make, Append, Sync, Rename, List as ListCall}
use Rattle.rip_words.specs.Command.{command_reading}
use Rattle.rip_report.specs.declared.status.Status.{Status}
use Rattle.rip_report.specs.declared.status.Status.TheVariants.{ReadFault, WriteFault}
use Rattle.engine_steps.specs.declared.steps.Answer.{Answer}
use Rattle.rip_commands.specs.Look.{Look}
use Rattle.rip_commands.specs.Ran.{Ran}
use Rattle.cmd_batch.specs.Batch.{FaultsAreCounted, all_faults, faulted_of, is_fault}
use Rattle.cmd_batch.proofs.ChainLaws.{none_fell}

-- the sum doesn't fall
sum_kept : (before now : ShelfCall → ℕ) → NoneFell before now → all_faults before ≤ all_faults now
sum_kept before now later =
    let a = later Size in let b = later ReadAt in let c = later Make in let d = later Append in let e = later Sync in let f = later Rename in let g = later ListCall in
    omega arith

-- a count that rose raises the sum, or stands at its last value
sum_rose : (before now : ShelfCall → ℕ) → NoneFell before now → (call : ShelfCall) → Rose (before call) (now call)
    → (all_faults before + 1 ≤ all_faults now) ⊎ (2 ^ 64 - 1 ≤ now call)
sum_rose before now later call rose = by call rose
  where
    a : before Size ≤ now Size
    a = later Size

    b : before ReadAt ≤ now ReadAt
    b = later ReadAt

    c : before Make ≤ now Make
    c = later Make

    d : before Append ≤ now Append
    d = later Append

    e : before Sync ≤ now Sync
    e = later Sync

    f : before Rename ≤ now Rename
    f = later Rename

    g : before ListCall ≤ now ListCall
    g = later ListCall

    higher : (call : ShelfCall) → Rose (before call) (now call) → (before call + 1 ≤ now call) ⊎ (2 ^ 64 - 1 ≤ now call)
    higher call rose = by_order (nat_le (2 ^ 64 - 1) (now call)) refl
      where
        by_order : (last : Bool) → nat_le (2 ^ 64 - 1) (now call) ≡ last → (before call + 1 ≤ now call) ⊎ (2 ^ 64 - 1 ≤ now call)
        by_order true is = inr (leb-true (2 ^ 64 - 1) (now call) is)
        by_order false is = let under = leb-false (2 ^ 64 - 1) (now call) is in inl (omega (arith, under, rose))

    by : (call : ShelfCall) → Rose (before call) (now call) → (all_faults before + 1 ≤ all_faults now) ⊎ (2 ^ 64 - 1 ≤ now call)
    by Size rose = elim (higher Size rose) [ inl up ↦ inl (omega (arith, up, a, b, c, d, e, f, g)) | inr last ↦ inr last ]
    by ReadAt rose = elim (higher ReadAt rose) [ inl up ↦ inl (omega (arith, up, a, b, c, d, e, f, g)) | inr last ↦ inr last ]
    by Make rose = elim (higher Make rose) [ inl up ↦ inl (omega (arith, up, a, b, c, d, e, f, g)) | inr last ↦ inr last ]
    by Append rose = elim (higher Append rose) [ inl up ↦ inl (omega (arith, up, a, b, c, d, e, f, g)) | inr last ↦ inr last ]
    by Sync rose = elim (higher Sync rose) [ inl up ↦ inl (omega (arith, up, a, b, c, d, e, f, g)) | inr last ↦ inr last ]
    by Rename rose = elim (higher Rename rose) [ inl up ↦ inl (omega (arith, up, a, b, c, d, e, f, g)) | inr last ↦ inr last ]
    by ListCall rose = elim (higher ListCall rose) [ inl up ↦ inl (omega (arith, up, a, b, c, d, e, f, g)) | inr last ↦ inr last ]

-- what a disc tells of a fault has its cause
fault_rose : (words : List (List ℕ)) (before now : Look) (told : Answer) (status : Status) → told.status ≡ status → Ran (command_reading words) before now told
    → is_fault status ≡ true → (call : ShelfCall) × Rose (before.faults call) (now.faults call)
fault_rose words before now told (ReadFault call) is ran fault = let f = ran.read_fault call is in (call, f.0.rose)
fault_rose words before now told (WriteFault call) is ran fault = let f = ran.write_fault call is in (call, f.0.rose)
fault_rose words before now told _ is ran fault = cc

-- one disc more
one_more : (words : List (List ℕ)) (before mid after : Look) (told : Answer) (others : List Answer) → Ran (command_reading words) before mid told → NoneFell mid.faults after.faults
    → (all_faults mid.faults + faulted_of others ≤ all_faults after.faults) ⊎ ((call : ShelfCall) × (2 ^ 64 - 1 ≤ after.faults call))
    → (all_faults before.faults + faulted_of (told ∷ others) ≤ all_faults after.faults) ⊎ ((call : ShelfCall) × (2 ^ 64 - 1 ≤ after.faults call))
one_more words before mid after told others ran later (inr last) = inr last
one_more words before mid after told others ran later (inl counted) = by (is_fault told.status) refl
  where
    by : (fault : Bool) → is_fault told.status ≡ fault
        → (all_faults before.faults + length (cond {A = List Answer} fault (told ∷ filter (λ t. is_fault t.status) others) (filter (λ t. is_fault t.status) others)) ≤ all_faults after.faults)
        ⊎ ((call : ShelfCall) × (2 ^ 64 - 1 ≤ after.faults call))
    by false is = inl (omega (arith, counted, sum_kept before.faults mid.faults ran.later))
    by true is =
        let cause = fault_rose words before mid told told.status refl ran is in
        elim (sum_rose before.faults mid.faults ran.later cause.0 cause.1) [
          | inl up ↦ inl (omega (arith, counted, up))
          | inr last ↦ inr (cause.0, omega (arith, last, later cause.0))
        ]

pub faults_counted : (discs : List (List (List ℕ))) (before after : Look) → FaultsAreCounted discs before after
faults_counted discs before after [] order = inl (rw order (omega arith))
faults_counted [] before after (told ∷ others) order = absurd order
faults_counted (words ∷ rest) before after (told ∷ others) order =
    one_more words before order.0 after told others order.1 (none_fell rest order.0 after others order.2) (faults_counted rest order.0 after others order.2)
