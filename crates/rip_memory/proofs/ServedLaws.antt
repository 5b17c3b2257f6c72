-- What one call more does to what a crash may leave.
use Rattle.std.proofs.Common.{◌≡◌, ◌≢◌, ◌⊎◌, ⊎_elim, ℕ, ◌+◌, ◌≤◌, ◌<◌, Bool, true, false, cond, ◌||◌, List, [], ◌∷◌, ◌++◌, length, take, Some, None, refl, sym, ◌∙◌, ap, subst, inl, inr, ◌^◌, arith, length-append}
use Rattle.std.specs.Str.{bytes_eq}
use Rattle.std.specs.Option.{is_some}
use Rattle.std.specs.FinMap.{get}
use Rattle.std.proofs.lemmas.Bool.{cases_lt}
use Rattle.std.proofs.lemmas.List.{take_all, take-append-le}
use Rattle.rip_outside.specs.Files.{Files, IsHeld, SameBut, AppendsPrefix, bytes_at, after_make, after_rename}
use Rattle.rip_outside.specs.Crashes.{is_among, without, MayLeave, Crashes, Elapses, EachMoment, Rests, Unsettles, Settles, MovesWhole, MovesTorn, Moves}
use Rattle.rip_outside.proofs.FilesLaws.{append_none, same_or_other, SameBut-insert, get-insert_other, get-remove_same, get-remove_other}
use Rattle.rip_outside.proofs.CrashLaws.{elapses_same, rests_same, each_none, among_other, among_first, not_among, not_first, not_without, among_without_same, among_without_other}
use Rattle.rip_memory.specs.declared.served.Served.{Served}
use Rattle.rip_memory.specs.declared.served.Served.TheVariants.{Make, Append, Sync, Rename}
use Rattle.rip_memory.specs.Served.{with, files_by, unsettled_by, files_from, unsettled_from, files_after, unsettled_after, MayLeaveAfter}
use Rattle.rip_memory.specs.ServedCrashes.{crashes_of}
use Rattle.rip_memory.specs.KeepsCalls.{KeepsCalls}
use Rattle.rip_memory.proofs.NameLaws.{filter-none}

-- ---- names

pub among_end : (q name : List ℕ) (names : List (List ℕ)) → is_among q (names ++ name ∷ []) ≡ is_among q (name ∷ names)
among_end q name [] = refl
among_end q name (one ∷ names) = ap (λ b. bytes_eq one q || b) (among_end q name names) ∙ swap (bytes_eq one q) (bytes_eq name q) (is_among q names)
  where
    swap : (a b c : Bool) → (a || (b || c)) ≡ (b || (a || c))
    swap true true c = refl
    swap true false c = refl
    swap false b c = refl

pub among_with : (q name : List ℕ) (names : List (List ℕ)) → is_among q (with name names) ≡ is_among q (name ∷ names)
among_with q name names = by (is_among name names) refl
  where
    by : (b : Bool) → is_among name names ≡ b → is_among q (cond b names (names ++ name ∷ [])) ≡ is_among q (name ∷ names)
    by true e = elim (same_or_other q name) [
      | inl is ↦ ap (λ k. is_among k names) is ∙ e ∙ sym (ap (λ k. is_among k (name ∷ names)) is ∙ among_first name names)
      | inr ne ↦ sym (among_other q name names ne)
    ]
    by false e = among_end q name names

-- ---- one call more

files_from_push : (calls : List Served) (call : Served) (files : Files) → files_from (calls ++ call ∷ []) files ≡ files_by call (files_from calls files)
files_from_push [] call files = refl
files_from_push (first ∷ calls) call files = files_from_push calls call (files_by first files)

unsettled_from_push : (calls : List Served) (call : Served) (names : List (List ℕ)) → unsettled_from (calls ++ call ∷ []) names ≡ unsettled_by call (unsettled_from calls names)
unsettled_from_push [] call names = refl
unsettled_from_push (first ∷ calls) call names = unsettled_from_push calls call (unsettled_by first names)

pub files_pushed : (calls later : List Served) (call : Served) → later ≡ calls ++ call ∷ [] → files_after later ≡ files_by call (files_after calls)
files_pushed calls later call is = ap files_after is ∙ files_from_push calls call _

pub unsettled_pushed : (calls later : List Served) (call : Served) → later ≡ calls ++ call ∷ [] → unsettled_after later ≡ unsettled_by call (unsettled_after calls)
unsettled_pushed calls later call is = ap unsettled_after is ∙ unsettled_from_push calls call _

-- what the calls before the last one left, or all
split_moment : (calls : List Served) (call : Served) (k : ℕ) (left : Files) → k ≤ length (calls ++ call ∷ []) → MayLeaveAfter (take k (calls ++ call ∷ [])) left
    → ((k ≤ length calls) × MayLeaveAfter (take k calls) left) ⊎ ((length calls < k) × MayLeaveAfter (calls ++ call ∷ []) left)
split_moment calls call k left le may = elim (cases_lt (length calls) k) [
  | inr early ↦ inl (early, subst (λ c. MayLeaveAfter c left) (take-append-le k calls (call ∷ []) early) may)
  | inl late ↦ inr (late, subst (λ c. MayLeaveAfter c left) (take_all k (calls ++ call ∷ []) (let n = length-append calls (call ∷ []) in omega arith)) may)
]

elapses_push : (calls : List Served) (call : Served) → Elapses (crashes_of calls) (crashes_of (calls ++ call ∷ []))
elapses_push calls call =
    let longer = length-append calls (call ∷ []) in record {
      later = omega (arith, longer);
      since = λ t left le. (
        λ s. ⊎_elim (λ early. inl (s.0, s.1, early.0, early.1)) (λ late. inr (s.0, omega (arith, late.0), s.2, s.3)) (split_moment calls call s.0 left s.2 s.3),
        λ s. ⊎_elim (λ old. (old.0, old.1, omega (arith, longer, old.2), subst (λ c. MayLeaveAfter c left) (sym (take-append-le old.0 calls (call ∷ []) old.2)) old.3))
            (λ new. (new.0, omega (arith, le, new.1), new.2, new.3)) s,
      );
    }

moments_push : (P : Files → Type 0) (calls : List Served) (call : Served) → ((left : Files) → MayLeaveAfter calls left → P left)
    → ((left : Files) → MayLeave (files_by call (files_after calls)) (unsettled_by call (unsettled_after calls)) left → P left) → EachMoment P (crashes_of calls) (crashes_of (calls ++ call ∷ []))
moments_push P calls call before after left s = elim (split_moment calls call s.0 left s.2 s.3) [
  | inl early ↦ before left (subst (λ c. MayLeaveAfter c left) (take_all s.0 calls s.1) early.1)
  | inr late ↦ after left (subst (λ f. MayLeave f (unsettled_by call (unsettled_after calls)) left) (files_pushed calls _ call refl)
      (subst (λ u. MayLeave (files_after (calls ++ call ∷ [])) u left) (unsettled_pushed calls _ call refl) late.1))
]

-- ---- each kind of call

-- fewer are left open where more are settled
more_unsettled : (files left : Files) (name : List ℕ) (names : List (List ℕ)) → MayLeave files names left → MayLeave files (name ∷ names) left
more_unsettled files left name names may q out = may q (not_among q name names out)

write_push : (name : List ℕ) (oom : Type 0) (calls : List Served) (call : Served) → unsettled_by call (unsettled_after calls) ≡ with name (unsettled_after calls)
    → SameBut name (files_after calls) (files_by call (files_after calls)) → Unsettles name oom (crashes_of calls) (crashes_of (calls ++ call ∷ []))
write_push name oom calls call names same = record {
  elapses = elapses_push calls call;
  moments = moments_push _ calls call (λ left may. more_unsettled (files_after calls) left name (unsettled_after calls) may)
      (λ left may q out. may q (ap (is_among q) names ∙ among_with q name (unsettled_after calls) ∙ out) ∙ same q (not_first q name (unsettled_after calls) out));
  unsettled = inl (λ q. ap (is_among q) (unsettled_pushed calls _ call refl ∙ names) ∙ among_with q name (unsettled_after calls));
}

along : (R : Crashes → Crashes → Type 0) (calls later : List Served) (call : Served) → later ≡ calls ++ call ∷ [] → R (crashes_of calls) (crashes_of (calls ++ call ∷ [])) → R (crashes_of calls) (crashes_of later)
along R calls later call is r = subst (λ l. R (crashes_of calls) (crashes_of l)) (sym is) r

pub make_push : (name : List ℕ) (done : Bool) (oom : Type 0) (calls later : List Served) → later ≡ calls ++ Make name done ∷ [] → Unsettles name oom (crashes_of calls) (crashes_of later)
make_push name done oom calls later is = along (Unsettles name oom) calls later _ is (write_push name oom calls (Make name done) refl (by done))
  where
    by : (b : Bool) → SameBut name (files_after calls) (cond b (after_make name (files_after calls)) (files_after calls))
    by true = SameBut-insert (files_after calls) name []
    by false = λ q ne. refl

pub append_push : (name bytes : List ℕ) (oom : Type 0) (calls later : List Served) → later ≡ calls ++ Append name bytes ∷ [] → Unsettles name oom (crashes_of calls) (crashes_of later)
append_push name bytes oom calls later is =
    along (Unsettles name oom) calls later _ is (write_push name oom calls (Append name bytes) refl (SameBut-insert (files_after calls) name (bytes_at name (files_after calls) ++ bytes)))

-- a call that wanted memory
pub write_none : (name : List ℕ) (oom : Type 0) (calls later : List Served) → later ≡ calls → oom → Unsettles name oom (crashes_of calls) (crashes_of later)
write_none name oom calls later is wanted = subst (λ l. Unsettles name oom (crashes_of calls) (crashes_of l)) (sym is) (record {
  elapses = elapses_same (crashes_of calls);
  moments = each_none _ (crashes_of calls) (λ left may. more_unsettled (files_after calls) left name (unsettled_after calls) may);
  unsettled = inr (wanted, refl, λ q. refl);
})

pub rests_none : (calls later : List Served) → later ≡ calls → Rests (crashes_of calls) (crashes_of later)
rests_none calls later is = subst (λ l. Rests (crashes_of calls) (crashes_of l)) (sym is) (rests_same (crashes_of calls))

pub sync_push : (name : List ℕ) (calls later : List Served) → later ≡ calls ++ Sync name ∷ [] → Settles name true (crashes_of calls) (crashes_of later)
sync_push name calls later is = along (Settles name true) calls later _ is (record {
  elapses = elapses_push calls (Sync name);
  moments = moments_push _ calls (Sync name) (λ left may. may) (λ left may q out. may q (not_without q name (unsettled_after calls) out));
  unsettled = λ q. ap (is_among q) (unsettled_pushed calls _ (Sync name) refl);
})

-- a sync that failed, or of a name that is settled
pub sync_none : (name : List ℕ) (went_well : Bool) (calls later : List Served) → later ≡ calls → (went_well ≡ true → is_among name (unsettled_after calls) ≡ false)
    → Settles name went_well (crashes_of calls) (crashes_of later)
sync_none name went_well calls later is settled = subst (λ l. Settles name went_well (crashes_of calls) (crashes_of l)) (sym is) (record {
  elapses = elapses_same (crashes_of calls);
  moments = each_none _ (crashes_of calls) (λ left may. may);
  unsettled = λ q. by went_well settled q;
})
  where
    by : (b : Bool) → (b ≡ true → is_among name (unsettled_after calls) ≡ false) → (q : List ℕ) → is_among q (unsettled_after calls) ≡ is_among q (cond b (without name (unsettled_after calls)) (unsettled_after calls))
    by false h q = refl
    by true h q = elim (same_or_other q name) [
      | inl e ↦ ap (λ k. is_among k (unsettled_after calls)) e ∙ h refl ∙ sym (ap (λ k. is_among k (without name (unsettled_after calls))) e ∙ among_without_same name (unsettled_after calls))
      | inr ne ↦ sym (among_without_other q name (unsettled_after calls) ne)
    ]

renamed_other : (from to : List ℕ) (files : Files) (q : List ℕ) → q ≢ from → q ≢ to → get (after_rename from to files) q ≡ get files q
renamed_other from to files q apart other = get-remove_other _ from q apart ∙ get-insert_other files to _ q other

is_held : (name : List ℕ) (files : Files) → IsHeld name files → is_some (get files name) ≡ true
is_held name files held = held

whole_push : (from to : List ℕ) (done : Bool) (calls : List Served) → IsHeld from (files_after calls) → is_among from (unsettled_after calls) ≡ false
    → MovesWhole from to (crashes_of calls) (crashes_of (calls ++ Rename from to done ∷ []))
whole_push from to done calls held settled = record {
  moments = moments_push _ calls (Rename from to done) (λ left may. inl may) (λ left may. by done left (rw settled at may));
  unsettled = λ q. ap (is_among q) (unsettled_pushed calls _ (Rename from to done) refl) ∙ after done q;
}
  where
    U : List (List ℕ)
    U = unsettled_after calls

    F : Files
    F = files_after calls

    by : (b : Bool) (left : Files) → MayLeave (cond b (after_rename from to F) F) (cond b (without to U) U) left → MayLeave F U left ⊎ MayLeave (after_rename from to F) (without to U) left
    by true left may = inr may
    by false left may = inl may

    after : (b : Bool) (q : List ℕ) → is_among q (cond (is_among from U) (with to U) (cond b (without to U) U))
        ≡ is_among q (cond (is_some (get (files_after (calls ++ Rename from to b ∷ [])) from)) U (without to U))
    after true q =
        let gone : get (files_after (calls ++ Rename from to true ∷ [])) from ≡ None = ap (λ f. get f from) (files_pushed calls _ (Rename from to true) refl) ∙ get-remove_same _ from in
        rw (settled, gone) refl
    after false q =
        let there : get (files_after (calls ++ Rename from to false ∷ [])) from ≡ get F from = ap (λ f. get f from) (files_pushed calls _ (Rename from to false) refl) in
        rw (settled, there, is_held from F held) refl

torn_push : (from to : List ℕ) (done : Bool) (oom : Type 0) (calls : List Served) → is_among from (unsettled_after calls) ≡ true
    → MovesTorn from to oom (crashes_of calls) (crashes_of (calls ++ Rename from to done ∷ []))
torn_push from to done oom calls torn = record {
  moments = moments_push _ calls (Rename from to done) (λ left may. more_unsettled F left from (to ∷ U) (more_unsettled F left to U may))
      (λ left may q out. after left (rw torn at may) q (not_first q from (to ∷ U) out) (not_among q from (to ∷ U) out));
  unsettled = inl (λ q. ap (is_among q) (unsettled_pushed calls _ (Rename from to done) refl) ∙ rw torn (among_with q to U ∙ both q));
}
  where
    U : List (List ℕ)
    U = unsettled_after calls

    F : Files
    F = files_after calls

    same : (b : Bool) (q : List ℕ) → q ≢ from → q ≢ to → get (cond b (after_rename from to F) F) q ≡ get F q
    same true q apart other = renamed_other from to F q apart other
    same false q apart other = refl

    after : (left : Files) → MayLeave (cond done (after_rename from to F) F) (with to U) left → (q : List ℕ) → q ≢ from → is_among q (to ∷ U) ≡ false → get left q ≡ get F q
    after left may q apart out = may q (among_with q to U ∙ out) ∙ same done q apart (not_first q to U out)

    both : (q : List ℕ) → is_among q (to ∷ U) ≡ is_among q (from ∷ to ∷ U)
    both q = elim (same_or_other q from) [
      | inl e ↦ by_name e
      | inr ne ↦ sym (among_other q from (to ∷ U) ne)
    ]
      where
        by_or : (a b : Bool) → b ≡ true → (a || b) ≡ true
        by_or true b e = refl
        by_or false b e = e

        by_name : q ≡ from → is_among q (to ∷ U) ≡ is_among q (from ∷ to ∷ U)
        by_name e = ap (λ k. is_among k (to ∷ U)) e ∙ by_or (bytes_eq to from) (is_among from U) torn ∙ sym (ap (λ k. is_among k (from ∷ to ∷ U)) e ∙ among_first from (to ∷ U))

pub rename_push : (from to : List ℕ) (done : Bool) (oom : Type 0) (calls later : List Served) → later ≡ calls ++ Rename from to done ∷ [] → IsHeld from (files_after calls)
    → Moves from to oom (crashes_of calls) (crashes_of later)
rename_push from to done oom calls later is held = along (Moves from to oom) calls later _ is (record {
  elapses = elapses_push calls (Rename from to done);
  whole = whole_push from to done calls held;
  torn = torn_push from to done oom calls;
})

pub rename_none : (from to : List ℕ) (oom : Type 0) (calls later : List Served) → later ≡ calls → oom → IsHeld from (files_after calls) → Moves from to oom (crashes_of calls) (crashes_of later)
rename_none from to oom calls later is wanted held = subst (λ l. Moves from to oom (crashes_of calls) (crashes_of l)) (sym is) (record {
  elapses = elapses_same (crashes_of calls);
  whole = λ settled. record {
    moments = each_none _ (crashes_of calls) (λ left may. inl may);
    unsettled = λ q. let there = is_held from (files_after calls) held in rw there refl;
  };
  torn = λ torn. record {
    moments = each_none _ (crashes_of calls) (λ left may. more_unsettled (files_after calls) left from (to ∷ unsettled_after calls) (more_unsettled (files_after calls) left to (unsettled_after calls) may));
    unsettled = inr (wanted, λ q. refl);
  };
})

-- ---- what is kept in memory

pub keeps_push : (files later_files : Files) (calls later : List Served) (unsettled later_unsettled : List (List ℕ)) (room later_room : ℕ) (call : Served) → KeepsCalls files calls unsettled room
    → later_files ≡ files_by call files → later ≡ calls ++ call ∷ [] → later_unsettled ≡ unsettled_by call unsettled → length later + length later_unsettled ≤ later_room → length later + length later_unsettled < 2 ^ 32
    → KeepsCalls later_files later later_unsettled later_room
keeps_push files later_files calls later unsettled later_unsettled room later_room call keeps changed kept names fits few = record {
  holds = changed ∙ ap (files_by call) keeps.holds ∙ sym (files_pushed calls later call kept);
  names = names ∙ ap (unsettled_by call) keeps.names ∙ sym (unsettled_pushed calls later call kept);
  fits = fits;
  few = few;
}

-- the files that are told, after a call
pub told_pushed : (files : Files) (calls later : List Served) (unsettled : List (List ℕ)) (room : ℕ) (call : Served) → later ≡ calls ++ call ∷ [] → Some (files_after later) ≡ Some (files_by call (files_after calls))
told_pushed files calls later unsettled room call kept = ap Some (files_pushed calls later call kept)

-- what an append added
pub part_push : (name bytes : List ℕ) (n : ℕ) (calls later : List Served) → later ≡ calls ++ Append name (take n bytes) ∷ [] → AppendsPrefix name bytes (Some (files_after calls)) (Some (files_after later))
part_push name bytes n calls later kept = (n, ap Some (files_pushed calls later (Append name (take n bytes)) kept))

pub part_none : (name bytes : List ℕ) (calls later : List Served) → later ≡ calls → IsHeld name (files_after calls) → AppendsPrefix name bytes (Some (files_after calls)) (Some (files_after later))
part_none name bytes calls later same held = (0, ap Some (ap files_after same ∙ sym (append_none name (files_after calls) held)))

pub keeps_settled : (files : Files) (calls : List Served) (unsettled later : List (List ℕ)) (room : ℕ) (name : List ℕ) → KeepsCalls files calls unsettled room → later ≡ without name unsettled → is_among name unsettled ≡ false
    → KeepsCalls files calls later room
keeps_settled files calls unsettled later room name keeps is out =
    let same : later ≡ unsettled = is ∙ filter-none (λ one. bytes_eq one name) unsettled out in
    subst (λ u. KeepsCalls files calls u room) (sym same) keeps
