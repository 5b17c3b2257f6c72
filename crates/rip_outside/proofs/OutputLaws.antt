-- Several files are put under their names, one after another.
use Rattle.std.proofs.Common.{◌≡◌, ◌≢◌, ℕ, zero, suc, ◌+◌, ◌<◌, List, [], ◌∷◌, ◌++◌, length, take, slice_get, Contains, Some, refl, sym, ◌∙◌, ap, inl, inr, arith}
use Rattle.std.specs.FinMap.{get, remove}
use Rattle.rip_outside.specs.Files.{Files, after_put}
use Rattle.rip_outside.specs.Crashes.{Crashes, IsSettled, EachMoment, StoresWhole, PutsWhole}
use Rattle.rip_outside.specs.Outputs.{Output, part_of, parts_of, after_outputs, StandsUpTo, MayStand, PutsSome}
use Rattle.rip_outside.proofs.FilesLaws.{same_or_other, get-insert_same, get-insert_other, get-remove_other}
use Rattle.rip_outside.proofs.CrashLaws.{elapses_same, elapses_twice, each_none, each_twice}

-- one output more
pub after_next : (outs : List Output) (m : ℕ) (next : Output) (files : Files) → slice_get outs m ≡ Some next
    → after_outputs (take (m + 1) outs) files ≡ after_put (part_of next.name) next.name next.bytes (after_outputs (take m outs) files)
after_next [] m next files here = cc
after_next (first ∷ outs) zero next files here = let same : first ≡ next = cc in rw same refl
after_next (first ∷ outs) (suc m) next files here =
    let more : suc m + 1 ≡ suc (m + 1) = omega arith in rw more (after_next outs m next (after_put (part_of first.name) first.name first.bytes files) here)

-- an output that is there
pub next_within : (outs : List Output) (m : ℕ) (next : Output) → slice_get outs m ≡ Some next → m < length outs
next_within [] m next here = cc
next_within (first ∷ outs) zero next here = omega arith
next_within (first ∷ outs) (suc m) next here = let below = next_within outs m next here in omega arith

-- its part is one of the parts
next_part : (outs : List Output) (m : ℕ) (next : Output) → slice_get outs m ≡ Some next → Contains (parts_of outs) (part_of next.name)
next_part [] m next here = cc
next_part (first ∷ outs) zero next here = let same : first ≡ next = cc in (0, omega arith, ap (λ (out : Output). part_of out.name) same)
next_part (first ∷ outs) (suc m) next here = let rest = next_part outs m next here in (suc rest.0, let below = rest.1 in omega arith, rest.2)

-- as before
pub none_stand : (outs : List Output) (files : Files) → MayStand outs files files
none_stand outs files = (0, omega arith, λ q _. refl)

-- the first m stand, and the next one is being written
pub some_stand : (outs : List Output) (m : ℕ) (renaming : Type 0) (old left : Files) → StandsUpTo outs m renaming old left → MayStand outs old left
some_stand outs m renaming old left stands =
    let below = next_within outs m stands.next stands.here in
    elim stands.left.before_or_whole [
      | inl before ↦ (
        m,
        omega arith,
        λ q out. elim (same_or_other q stands.next.name) [
          | inl is ↦ rw is before
          | inr other ↦ stands.left.others q (apart q out) other
        ],
      )
      | inr whole ↦ (
        m + 1,
        omega arith,
        λ q out. elim (same_or_other q stands.next.name) [
          | inl is ↦ rw is (whole.1 ∙ sym (ap (λ files. get files stands.next.name) next ∙ get-insert_same _ stands.next.name stands.next.bytes))
          | inr other ↦ stands.left.others q (apart q out) other ∙ sym (ap (λ files. get files q) next ∙ get-insert_other _ stands.next.name stands.next.bytes q other ∙ get-remove_other _ (part_of stands.next.name) q (apart q out))
        ],
      )
    ]
  where
    next : after_outputs (take (m + 1) outs) old ≡ after_put (part_of stands.next.name) stands.next.name stands.next.bytes (after_outputs (take m outs) old)
    next = after_next outs m stands.next old stands.here

    apart : (q : List ℕ) → (Contains (parts_of outs) q → ⊥) → q ≡ part_of stands.next.name → ⊥
    apart q out is = out (rw is (next_part outs m stands.next stands.here))

-- ---- a loop that puts them

-- before the first
pub puts_none : (outs : List Output) (a : Crashes) → PutsSome outs 0 a a
puts_none outs a = record {
  elapses = elapses_same a;
  files = refl;
  moments = λ settled. each_none _ a (λ left now. (0, omega arith, λ q _. now q (settled q)));
  settled = λ settled. settled;
}

next_moments : (outs : List Output) (m : ℕ) (next : Output) (well : Type 0) (a b c : Crashes) → slice_get outs m ≡ Some next → PutsSome outs m a b
    → PutsWhole (part_of next.name) next.name next.bytes well b c → IsSettled a → EachMoment (MayStand outs a.files) a c
next_moments outs m next well a b c here so_far put settled = each_twice _ a b c so_far.elapses put.elapses (so_far.moments settled)
    (λ left s. some_stand outs m (Unit {0}) a.files left (record { next = next; here = here; left = rw (← so_far.files) (put.moments (so_far.settled settled) left s) }))

-- one more
pub puts_next : (outs : List Output) (m : ℕ) (next : Output) (well : Type 0) (a b c : Crashes) → slice_get outs m ≡ Some next → PutsSome outs m a b
    → PutsWhole (part_of next.name) next.name next.bytes well b c → well → c.files ≡ after_put (part_of next.name) next.name next.bytes b.files → PutsSome outs (m + 1) a c
puts_next outs m next well a b c here so_far put went files = record {
  elapses = elapses_twice a b c so_far.elapses put.elapses;
  files = files ∙ ap (after_put (part_of next.name) next.name next.bytes) so_far.files ∙ sym (after_next outs m next a.files here);
  moments = next_moments outs m next well a b c here so_far put;
  settled = λ settled. put.settled (so_far.settled settled) went;
}

-- one that failed
pub puts_stopped : (outs : List Output) (m : ℕ) (next : Output) (well : Type 0) (a b c : Crashes) → slice_get outs m ≡ Some next → PutsSome outs m a b
    → PutsWhole (part_of next.name) next.name next.bytes well b c → (well → ⊥) → StoresWhole (MayStand outs) well a c
puts_stopped outs m next well a b c here so_far put never = record {
  elapses = elapses_twice a b c so_far.elapses put.elapses;
  moments = next_moments outs m next well a b c here so_far put;
  settled = λ _ went. absurd (never went);
}

-- all of them
pub puts_all : (outs : List Output) (m : ℕ) (well : Type 0) (a b : Crashes) → PutsSome outs m a b → StoresWhole (MayStand outs) well a b
puts_all outs m well a b so_far = record {
  elapses = so_far.elapses;
  moments = so_far.moments;
  settled = λ settled _. so_far.settled settled;
}

-- ---- names that outputs leave alone

-- a name that is neither the one nor its part
pub put_other : (part out bytes q : List ℕ) (files : Files) → q ≢ part → q ≢ out → get (after_put part out bytes files) q ≡ get files q
put_other part out bytes q files apart other = get-insert_other (remove files part) out bytes q other ∙ get-remove_other files part q apart

-- a name that is neither an output's nor its part's
abbrev pub IsApartFrom : List ℕ → List Output → Type 0
IsApartFrom name [] = Unit {0}
IsApartFrom name (out ∷ outs) = (name ≢ part_of out.name) × (name ≢ out.name) × IsApartFrom name outs

-- it stays
pub other_stays : (outs : List Output) (name : List ℕ) (files : Files) → IsApartFrom name outs → get (after_outputs outs files) name ≡ get files name
other_stays [] name files apart = refl
other_stays (out ∷ outs) name files apart =
    other_stays outs name (after_put (part_of out.name) out.name out.bytes files) apart.2 ∙ put_other (part_of out.name) out.name out.bytes name files apart.0 apart.1

-- outputs after outputs
pub outputs_more : (outs others : List Output) (files : Files) → after_outputs (outs ++ others) files ≡ after_outputs others (after_outputs outs files)
outputs_more [] others files = refl
outputs_more (out ∷ outs) others files = outputs_more outs others (after_put (part_of out.name) out.name out.bytes files)
