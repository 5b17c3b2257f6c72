-- Laws of what a crash may leave, and how calls follow one another.
use Rattle.std.proofs.Common.{◌≡◌, ◌≢◌, ⊎_elim, ℕ, ◌≤◌, Bool, true, false, not, cond, ◌||◌, List, [], ◌∷◌, Option, Some, refl, sym, ◌∙◌, ap, inl, inr, arith}
use Rattle.std.specs.Str.{bytes_eq}
use Rattle.std.specs.Option.{ForSome}
use Rattle.std.specs.FinMap.{get}
use Rattle.std.proofs.lemmas.Map.Text.{is_eq-slice_cmp}
use Rattle.rip_outside.specs.Files.{Files, SameBut, WhereTold}
use Rattle.rip_outside.specs.Crashes.{is_among, without, MayLeave, Crashes, LeavesNow, Outlook, WhereForetold, TellsHeld, Elapses, EachMoment, Rests, Touches, Unsettles, Settles}
use Rattle.rip_outside.specs.Crashes.Outlook.{Untold, Foretold}
use Rattle.rip_outside.proofs.FilesLaws.{is_name_same, is_name_other, same_or_other}

-- ---- names

pub bytes_same : (q : List ℕ) → bytes_eq q q ≡ true
bytes_same q = sym (is_eq-slice_cmp q q) ∙ is_name_same q

pub bytes_other : (one q : List ℕ) → q ≢ one → bytes_eq one q ≡ false
bytes_other one q ne = sym (is_eq-slice_cmp one q) ∙ is_name_other one q (λ e. ne (sym e))

-- another name in front
pub among_other : (q name : List ℕ) (names : List (List ℕ)) → q ≢ name → is_among q (name ∷ names) ≡ is_among q names
among_other q name names ne = ap (λ b. b || is_among q names) (bytes_other name q ne)

-- a name that isn't among more isn't among fewer, nor is it the one in front
pub not_among : (q name : List ℕ) (names : List (List ℕ)) → is_among q (name ∷ names) ≡ false → is_among q names ≡ false
not_among q name names out = by (bytes_eq name q) (is_among q names) out
  where
    by : (a b : Bool) → (a || b) ≡ false → b ≡ false
    by true b e = let clash : true ≡ false = e in cc
    by false b e = e

pub among_first : (name : List ℕ) (names : List (List ℕ)) → is_among name (name ∷ names) ≡ true
among_first name names = ap (λ b. b || is_among name names) (bytes_same name)

pub not_first : (q name : List ℕ) (names : List (List ℕ)) → is_among q (name ∷ names) ≡ false → q ≢ name
not_first q name names out is = let yes : is_among name (name ∷ names) ≡ false = ap (λ k. is_among k (name ∷ names)) (sym is) ∙ out in let same = among_first name names in cc

-- the name that was taken out, and the others
pub among_without_same : (name : List ℕ) (names : List (List ℕ)) → is_among name (without name names) ≡ false
among_without_same name [] = refl
among_without_same name (one ∷ names) = by (among_without_same name names) (bytes_eq one name) refl
  where
    by : is_among name (without name names) ≡ false → (b : Bool) → bytes_eq one name ≡ b → is_among name (cond (not b) (one ∷ without name names) (without name names)) ≡ false
    by rest true e = rest
    by rest false e = ap (λ b. b || is_among name (without name names)) e ∙ rest

pub among_without_other : (q name : List ℕ) (names : List (List ℕ)) → q ≢ name → is_among q (without name names) ≡ is_among q names
among_without_other q name [] ne = refl
among_without_other q name (one ∷ names) ne = by (among_without_other q name names ne) (bytes_eq one name) refl
  where
    front : bytes_eq one name ≡ true → bytes_eq one q ≡ false
    front e = elim (same_or_other one q) [
      | inl is ↦ let yes : bytes_eq q name ≡ true = rw (← is) e in let other : bytes_eq q name ≡ false = bytes_other q name (λ p. ne (sym p)) in cc
      | inr apart ↦ bytes_other one q (λ p. apart (sym p))
    ]

    by : is_among q (without name names) ≡ is_among q names → (b : Bool) → bytes_eq one name ≡ b
        → is_among q (cond (not b) (one ∷ without name names) (without name names)) ≡ (bytes_eq one q || is_among q names)
    by rest true e = rest ∙ sym (ap (λ b. b || is_among q names) (front e))
    by rest false e = ap (λ b. bytes_eq one q || b) rest

pub not_without : (q name : List ℕ) (names : List (List ℕ)) → is_among q names ≡ false → is_among q (without name names) ≡ false
not_without q name names out = elim (same_or_other q name) [
  | inl is ↦ rw is (among_without_same name names)
  | inr ne ↦ among_without_other q name names ne ∙ out
]

-- ---- what is told

-- what follows from a relation of what is told, and from the files that are held
pub foretold_held : (R Q : Crashes → Crashes → Type 0) (h0 h1 : Option Files) (o0 o1 : Outlook) → TellsHeld h0 o0 → TellsHeld h1 o1 → WhereForetold R o0 o1
    → ((a b : Crashes) → h0 ≡ Some a.files → h1 ≡ Some b.files → R a b → Q a b) → WhereForetold Q o0 o1
foretold_held R Q h0 h1 Untold Untold t0 t1 r step = tt
foretold_held R Q h0 h1 Untold (Foretold b) t0 t1 r step = r
foretold_held R Q h0 h1 (Foretold a) Untold t0 t1 r step = r
foretold_held R Q h0 h1 (Foretold a) (Foretold b) t0 t1 r step = step a b t0 t1 r

pub foretold_weaker : (R Q : Crashes → Crashes → Type 0) (o0 o1 : Outlook) → WhereForetold R o0 o1 → ((a b : Crashes) → R a b → Q a b) → WhereForetold Q o0 o1
foretold_weaker R Q Untold Untold r step = tt
foretold_weaker R Q Untold (Foretold b) r step = r
foretold_weaker R Q (Foretold a) Untold r step = r
foretold_weaker R Q (Foretold a) (Foretold b) r step = step a b r

-- one after another
pub foretold_twice : (R S Q : Crashes → Crashes → Type 0) (o0 o1 o2 : Outlook) → WhereForetold R o0 o1 → WhereForetold S o1 o2
    → ((a b c : Crashes) → R a b → S b c → Q a c) → WhereForetold Q o0 o2
foretold_twice R S Q Untold Untold Untold r s step = tt
foretold_twice R S Q Untold Untold (Foretold c) r s step = s
foretold_twice R S Q Untold (Foretold b) o2 r s step = absurd r
foretold_twice R S Q (Foretold a) Untold o2 r s step = absurd r
foretold_twice R S Q (Foretold a) (Foretold b) Untold r s step = s
foretold_twice R S Q (Foretold a) (Foretold b) (Foretold c) r s step = step a b c r s

-- three moments of a shelf, with what it holds
pub foretold_thrice : (R S Q : Crashes → Crashes → Type 0) (h0 h1 h2 : Option Files) (o0 o1 o2 : Outlook) → TellsHeld h0 o0 → TellsHeld h1 o1 → TellsHeld h2 o2 → WhereForetold R o0 o1 → WhereForetold S o1 o2
    → ((a b c : Crashes) → h0 ≡ Some a.files → h1 ≡ Some b.files → h2 ≡ Some c.files → R a b → S b c → Q a c) → WhereForetold Q o0 o2
foretold_thrice R S Q h0 h1 h2 Untold Untold Untold t0 t1 t2 r s step = tt
foretold_thrice R S Q h0 h1 h2 Untold Untold (Foretold c) t0 t1 t2 r s step = s
foretold_thrice R S Q h0 h1 h2 Untold (Foretold b) o2 t0 t1 t2 r s step = absurd r
foretold_thrice R S Q h0 h1 h2 (Foretold a) Untold o2 t0 t1 t2 r s step = absurd r
foretold_thrice R S Q h0 h1 h2 (Foretold a) (Foretold b) Untold t0 t1 t2 r s step = s
foretold_thrice R S Q h0 h1 h2 (Foretold a) (Foretold b) (Foretold c) t0 t1 t2 r s step = step a b c t0 t1 t2 r s

-- the files of two that are told stand as what is held does
pub held_files : (R : Files → Files → Type 0) (h0 h1 : Option Files) (a b : Crashes) → h0 ≡ Some a.files → h1 ≡ Some b.files → WhereTold R h0 h1 → R a.files b.files
held_files R h0 h1 a b is0 is1 told =
    let told' : WhereTold R (Some a.files) h1 = rw is0 at told in
    let same : told'.0 ≡ b.files = let e : Some (told'.0) ≡ Some b.files = sym told'.1 ∙ is1 in cc in
    rw same at told'.2

pub told_file : (P : Files → Type 0) (h : Option Files) (a : Crashes) → h ≡ Some a.files → ForSome h P → P a.files
told_file P h a is told = told a.files is

-- ---- time

pub elapses_same : (a : Crashes) → Elapses a a
elapses_same a = record {
  later = omega arith;
  since = λ t left le. (λ s. inl s, λ s. ⊎_elim (λ was. was) (λ now. a.since_earlier t a.time left le (omega arith) now) s);
}

pub elapses_twice : (a b c : Crashes) → Elapses a b → Elapses b c → Elapses a c
elapses_twice a b c first second = record {
  later = omega (arith, first.later, second.later);
  since = λ t left le.
      let le' : t ≤ b.time = omega (arith, le, first.later) in
      let at_start = second.since a.time left first.later in
      let at_t = second.since t left le' in
      let was = first.since t left le in (
        λ s. ⊎_elim (λ mid. ⊎_elim (λ old. inl old) (λ here. inr (at_start.1 (inl here))) (was.0 mid)) (λ late. inr (at_start.1 (inr late))) (at_t.0 s),
        λ s. ⊎_elim (λ old. at_t.1 (inl (was.1 (inl old)))) (λ here. ⊎_elim (λ mid. at_t.1 (inl (was.1 (inr mid)))) (λ late. at_t.1 (inr late)) (at_start.0 here)) s,
      );
}

-- before the first call
pub each_none : (P : Files → Type 0) (a : Crashes) → ((left : Files) → LeavesNow a left → P left) → EachMoment P a a
each_none P a here left s = here left ((a.since_now left).0 s)

-- one call more
pub each_twice : (P : Files → Type 0) (a b c : Crashes) → Elapses a b → Elapses b c → EachMoment P a b → EachMoment P b c → EachMoment P a c
each_twice P a b c before after first second left s = ⊎_elim (first left) (second left) ((after.since a.time left before.later).0 s)

pub each_weaker : (P Q : Files → Type 0) (a b : Crashes) → EachMoment P a b → ((left : Files) → P left → Q left) → EachMoment Q a b
each_weaker P Q a b each step left s = step left (each left s)

-- ---- calls that only read

pub rests_same : (a : Crashes) → Rests a a
rests_same a = record { elapses = elapses_same a; files = refl; unsettled = refl; moments = each_none (LeavesNow a) a (λ left now. now) }

pub rests_twice : (a b c : Crashes) → Rests a b → Rests b c → Rests a c
rests_twice a b c first second = record {
  elapses = elapses_twice a b c first.elapses second.elapses;
  files = second.files ∙ first.files;
  unsettled = second.unsettled ∙ first.unsettled;
  moments = each_twice (LeavesNow a) a b c first.elapses second.elapses first.moments (λ left s. rw (first.files, first.unsettled) at (second.moments left s));
}

-- ---- calls that write one name alone

-- no call
pub touches_none : (name : List ℕ) (a : Crashes) → Touches name a a
touches_none name a = record {
  elapses = elapses_same a;
  moments = each_none (MayLeave a.files (name ∷ a.unsettled)) a (λ left now q out. now q (not_among q name a.unsettled out));
  unsettled = λ q out. not_among q name a.unsettled out;
  files = λ q ne. refl;
}

pub touches_rests : (name : List ℕ) (a b : Crashes) → Rests a b → Touches name a b
touches_rests name a b rests = record {
  elapses = rests.elapses;
  moments = λ left s q out. rests.moments left s q (not_among q name a.unsettled out);
  unsettled = λ q out. ap (is_among q) rests.unsettled ∙ not_among q name a.unsettled out;
  files = λ q ne. ap (λ files. get files q) rests.files;
}

pub touches_twice : (name : List ℕ) (a b c : Crashes) → Touches name a b → Touches name b c → Touches name a c
touches_twice name a b c first second = record {
  elapses = elapses_twice a b c first.elapses second.elapses;
  moments = each_twice (MayLeave a.files (name ∷ a.unsettled)) a b c first.elapses second.elapses first.moments
      (λ left s q out. let ne : q ≢ name = not_first q name a.unsettled out in second.moments left s q (among_other q name b.unsettled ne ∙ first.unsettled q out) ∙ first.files q ne);
  unsettled = λ q out. second.unsettled q (among_other q name b.unsettled (not_first q name a.unsettled out) ∙ first.unsettled q out);
  files = λ q ne. second.files q ne ∙ first.files q ne;
}

pub touches_unsettled : (name : List ℕ) (oom : Type 0) (a b : Crashes) → Unsettles name oom a b → SameBut name a.files b.files → Touches name a b
touches_unsettled name oom a b call same = record {
  elapses = call.elapses;
  moments = call.moments;
  unsettled = λ q out. ⊎_elim (λ names. names q ∙ out) (λ kept. kept.2 q ∙ not_among q name a.unsettled out) call.unsettled;
  files = same;
}

pub touches_settled : (name : List ℕ) (went_well : Bool) (a b : Crashes) → Settles name went_well a b → b.files ≡ a.files → Touches name a b
touches_settled name went_well a b call same = record {
  elapses = call.elapses;
  moments = λ left s q out. call.moments left s q (not_among q name a.unsettled out);
  unsettled = λ q out. call.unsettled q ∙ by went_well q (not_among q name a.unsettled out);
  files = λ q ne. ap (λ files. get files q) same;
}
  where
    by : (well : Bool) (q : List ℕ) → is_among q a.unsettled ≡ false → is_among q (cond well (without name a.unsettled) a.unsettled) ≡ false
    by true q out = not_without q name a.unsettled out
    by false q out = out

-- ---- calls that only read, as the shelf tells them

pub told_rests : (o : Outlook) → WhereForetold Rests o o
told_rests Untold = tt
told_rests (Foretold a) = rests_same a

pub told_rests_twice : (o0 o1 o2 : Outlook) → WhereForetold Rests o0 o1 → WhereForetold Rests o1 o2 → WhereForetold Rests o0 o2
told_rests_twice o0 o1 o2 first second = foretold_twice _ _ _ o0 o1 o2 first second (λ a b c r s. rests_twice a b c r s)

-- ---- calls that write one name alone, as the shelf tells them

pub told_none_touched : (name : List ℕ) (o : Outlook) → WhereForetold (Touches name) o o
told_none_touched name Untold = tt
told_none_touched name (Foretold a) = touches_none name a

pub told_rests_touched : (name : List ℕ) (o0 o1 : Outlook) → WhereForetold Rests o0 o1 → WhereForetold (Touches name) o0 o1
told_rests_touched name o0 o1 rests = foretold_weaker _ _ o0 o1 rests (λ a b r. touches_rests name a b r)

pub told_twice_touched : (name : List ℕ) (o0 o1 o2 : Outlook) → WhereForetold (Touches name) o0 o1 → WhereForetold (Touches name) o1 o2 → WhereForetold (Touches name) o0 o2
told_twice_touched name o0 o1 o2 first second = foretold_twice _ _ _ o0 o1 o2 first second (λ a b c r s. touches_twice name a b c r s)
