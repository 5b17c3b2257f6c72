-- What is held after a merge.
use Rattle.std.proofs.Common.{◌≡◌, ◌≢◌, ◌∙◌, ℕ, zero, suc, ◌<◌, List, [], ◌∷◌, length, map, get_or, Option, None, Some, Bool, cond, true, false, refl, sym, ap, subst, arith}
use Rattle.std.specs.Prelude.{All, AllPairs, Contains, filter, is_some, unwrap_or}
use Rattle.std.specs.FinMap.{get, remove}
use Rattle.std.proofs.lemmas.List.Elements.{All-filter, All-head, All-tail}
use Rattle.std.proofs.lemmas.List.{length-map}
use Rattle.rip_outside.specs.Files.{Files, IsHeld, after_put}
use Rattle.rip_outside.specs.Outputs.{Output, after_outputs, part_of}
use Rattle.rip_outside.proofs.FilesLaws.{get-insert_same}
use Rattle.engine_outputs.proofs.FollowLaws.{pairs_head, pairs_tail}
use Rattle.rip_outside.proofs.OutputLaws.{IsApartFrom, other_stays}
use Rattle.store_upkeep.specs.Entries.{entries_in}
use Rattle.store_upkeep.proofs.EntryLaws.{entries_held}
use Rattle.cmd_merge.specs.Holding.{HoldsBoth, IsNewRecord}
use Rattle.cmd_merge.specs.MergeOutcome.{fate_of, is_added, merge_output, merge_outputs, target}
use Rattle.cmd_merge.proofs.AddLaws.{IsAddition, added, added_differ, additions, named, outputs}
use Rattle.cmd_merge.proofs.NameLaws.{target_differs, target_no_part}

-- no later output and no later part has its name
abbrev pub AreOwn : List Output → Type 0
AreOwn [] = Unit {0}
AreOwn (out ∷ outs) = IsApartFrom out.name outs × AreOwn outs

pub output_stands : (outs : List Output) (i : ℕ) (d : Output) (files : Files) → AreOwn outs → i < length outs → get (after_outputs outs files) (get_or outs i d).name ≡ Some (get_or outs i d).bytes
output_stands [] i d files own below = absurd (omega arith)
output_stands (out ∷ outs) zero d files own below =
    other_stays outs out.name (after_put (part_of out.name) out.name out.bytes files) own.0 ∙ get-insert_same (remove files (part_of out.name)) out.name out.bytes
output_stands (out ∷ outs) (suc i) d files own below = output_stands outs i d (after_put (part_of out.name) out.name out.bytes files) own.1 (omega arith)

same_default : {A : Type 0} (xs : List A) (k : ℕ) (d e : A) → k < length xs → get_or xs k d ≡ get_or xs k e
same_default [] k d e below = absurd (omega arith)
same_default (x ∷ xs) zero d e below = refl
same_default (x ∷ xs) (suc k) d e below = same_default xs k d e (omega arith)

all_contained : {A : Type 0} (xs : List A) → All (Contains xs) xs
all_contained xs k d below = (k, below, same_default xs k (get_or xs k d) d below)

mapped_at : {A B : Type 0} (f : A → B) (xs : List A) (k : ℕ) (d : A) (e : B) → k < length xs → get_or (map f xs) k e ≡ f (get_or xs k d)
mapped_at f [] k d e below = absurd (omega arith)
mapped_at f (x ∷ xs) zero d e below = refl
mapped_at f (x ∷ xs) (suc k) d e below = mapped_at f xs k d e (omega arith)

contained_still : {A : Type 0} (p : A → Bool) (xs : List A) (x : A) (k : ℕ) → k < length xs → get_or xs k x ≡ x → p x ≡ true → Contains (filter p xs) x
contained_still p [] x k below is passes = absurd (omega arith)
contained_still p (y ∷ ys) x zero below is passes = by (p y) (ap p is ∙ passes)
  where
    by : (b : Bool) → b ≡ true → Contains (cond b (y ∷ filter p ys) (filter p ys)) x
    by true e = (0, omega arith, is)
    by false e = let no : false ≡ true = e in cc
contained_still p (y ∷ ys) x (suc k) below is passes = by (p y) (contained_still p ys x k (omega arith) is passes)
  where
    by : (b : Bool) → Contains (filter p ys) x → Contains (cond b (y ∷ filter p ys) (filter p ys)) x
    by true there = (suc there.0, (let low = there.1 in omega arith), there.2)
    by false there = there

some_bytes : (held : Option (List ℕ)) → is_some held ≡ true → Some (unwrap_or held []) ≡ held
some_bytes None is = let no : false ≡ true = is in cc
some_bytes (Some bytes) is = refl

module _ (from to : List ℕ) (files : Files) where
  -- a name that is apart from each addition's
  apart_by : (P : List ℕ → Type 0) (q : List ℕ) (names : List (List ℕ)) → All P names → ((n : List ℕ) → P n → q ≢ part_of (target from to n)) → ((n : List ℕ) → P n → q ≢ target from to n) → IsApartFrom q (outputs from to files names)
  apart_by P q [] all parts outs = tt
  apart_by P q (name ∷ names) all parts outs = (parts name (All-head P name names all), outs name (All-head P name names all), apart_by P q names (All-tail P name names all) parts outs)

  apart_later : (name : List ℕ) (names : List (List ℕ)) → All (λ later. later ≢ name) names → IsAddition from to files name → All (IsAddition from to files) names → IsApartFrom (target from to name) (outputs from to files names)
  apart_later name [] differ adds all = tt
  apart_later name (later ∷ names) differ adds all = (
    target_no_part from to name (target from to later) (named from to files name adds),
    (λ same. target_differs from to later name (named from to files later (All-head (IsAddition from to files) later names all)) (named from to files name adds) (All-head (λ l. l ≢ name) later names differ) (sym same)),
    apart_later name names (All-tail (λ l. l ≢ name) later names differ) adds (All-tail (IsAddition from to files) later names all),
  )

  own_from : (names : List (List ℕ)) → AllPairs (λ earlier later. later ≢ earlier) names → All (IsAddition from to files) names → AreOwn (outputs from to files names)
  own_from [] differ all = tt
  own_from (name ∷ names) differ all =
      let rest = All-tail (IsAddition from to files) name names all in
      (apart_later name names (pairs_head name names differ) (All-head (IsAddition from to files) name names all) rest, own_from names (pairs_tail name names differ) rest)

  -- the additions are the new records
  new_added : All (IsNewRecord from to files) (added from to files)
  new_added k d below =
      let adds = additions from to files k d below in
      let there = All-filter (λ name. is_added (fate_of from to files name)) (Contains (entries_in from files)) (entries_in from files) (all_contained (entries_in from files)) k d below in
      record { entry = there; good = adds.good; free = adds.free }

  added_new : (name : List ℕ) → IsNewRecord from to files name → Contains (added from to files) name
  added_new name new =
      let passes : is_added (fate_of from to files name) ≡ true = rw (new.good, new.free) refl in
      contained_still (λ n. is_added (fate_of from to files n)) (entries_in from files) name new.entry.0 new.entry.1 new.entry.2 passes

  is_held : (name : List ℕ) → IsNewRecord from to files name → IsHeld name files
  is_held name new = subst (λ (n : List ℕ). IsHeld n files) new.entry.2 (entries_held from files new.entry.0 name new.entry.1)

  pub holds_both : HoldsBoth from to files (after_outputs (merge_outputs from to files) files)
  holds_both = record {
    kept = λ name no_part held. other_stays (merge_outputs from to files) name files
        (apart_by (IsNewRecord from to files) name (added from to files) new_added no_part
        (λ n new same. let none : get files name ≡ None = ap (get files) same ∙ new.free in let here : is_some (get files name) ≡ true = held in let no : false ≡ true = sym (ap is_some none) ∙ here in cc));
    added = λ name new.
        let there = added_new name new in
        let place : get_or (merge_outputs from to files) there.0 (merge_output from to files name) ≡ merge_output from to files name =
        mapped_at (merge_output from to files) (added from to files) there.0 name (merge_output from to files name) there.1 ∙ ap (merge_output from to files) there.2 in
        let below : there.0 < length (merge_outputs from to files) = let many : length (merge_outputs from to files) ≡ length (added from to files) = length-map (added from to files) (merge_output from to files) in let low = there.1 in omega arith in
        let stands = output_stands (merge_outputs from to files) there.0 (merge_output from to files name) files (own_from (added from to files) (added_differ from to files) (additions from to files)) below in
        subst (λ (o : Output). get (after_outputs (merge_outputs from to files) files) o.name ≡ Some o.bytes) place stands ∙ some_bytes (get files name) (is_held name new);
    nothing_else = λ name no_part free other. other_stays (merge_outputs from to files) name files (apart_by (IsNewRecord from to files) name (added from to files) new_added no_part other) ∙ free;
  }
