-- What a merge adds: whole records, under names that no file has.
use Rattle.std.proofs.Common.{◌≡◌, ◌≢◌, ◌∙◌, ℕ, zero, suc, ◌+◌, ◌<◌, ◌≤◌, List, [], ◌∷◌, ◌++◌, length, take, map, get_or, slice_get, Option, None, Some, Bool, true, false, refl, sym, ap, subst, arith}
use Rattle.std.specs.Prelude.{All, AllPairs, is_some, unwrap_or, if◌then◌else◌}
use Rattle.std.specs.Str.{bytes_eq}
use Rattle.std.specs.FinMap.{get}
use Rattle.std.proofs.lemmas.List.Elements.{All-filter, All-get_or, All-head, All-tail, filter_passes}
use Rattle.std.proofs.lemmas.List.{length-map, map_more, take-map}
use Rattle.std.proofs.lemmas.List.Sums.{sum_by-cons, sum_by-take-le, sum_by_more}
use Rattle.rip_inputs.specs.Opening.{lengths_of}
use Rattle.rip_inputs.proofs.LengthLaws.{lengths_of-append}
use Rattle.std.proofs.lemmas.List.Kept.{AllPairs-filter}
use Rattle.rip_outside.specs.Files.{Files, IsHeld, after_put, bytes_at}
use Rattle.rip_outside.specs.Outputs.{Output, after_outputs, part_of}
use Rattle.store_upkeep.specs.Entries.{entries_in, entry_state, state_of_bytes}
use Rattle.store_upkeep.specs.Looking.{is_good}
use Rattle.store_upkeep.proofs.EntryLaws.{entries_differ, entries_held}
use Rattle.engine_outputs.proofs.FollowLaws.{AreFresh, IsOtherName, next_free, pairs_head, pairs_tail}
use Rattle.rip_outside.proofs.OutputLaws.{IsApartFrom, put_other}
use Rattle.cmd_merge.specs.declared.fate.Fate.TheVariants.{Same, Differs, Skipped}
use Rattle.cmd_merge.specs.declared.planning.Planned.{Planned}
use Rattle.cmd_merge.specs.MergeOutcome.{added_among, fate_beside, fate_of, is_added, merge_output, merge_outputs, target}
use Rattle.cmd_merge.specs.Planning.{planned, planned_parts}
use Rattle.engine_steps.specs.Outcome.{output}
use Rattle.engine_outputs.proofs.OneMoreLaws.{Fits}
use Rattle.cmd_merge.proofs.NameLaws.{IsNamed, good_named, named_no_part, target_differs}

-- ---- files that are put, and what follows them

pub get_follows : (outs : List Output) (i : ℕ) (name : List ℕ) (files : Files) → IsApartFrom name outs → get (after_outputs (take i outs) files) name ≡ get files name
get_follows outs zero name files apart = refl
get_follows [] (suc i) name files apart = refl
get_follows (out ∷ outs) (suc i) name files apart =
    get_follows outs i name (after_put (part_of out.name) out.name out.bytes files) apart.2 ∙ put_other (part_of out.name) out.name out.bytes name files apart.0 apart.1

-- ---- what is known of an entry that is added

pub record IsAddition (from to : List ℕ) (files : Files) (name : List ℕ) : Type 0 where
  pub good : is_good (entry_state from files name) ≡ true
  pub free : get files (target from to name) ≡ None
  pub held : IsHeld name files

beside : (bytes held : List ℕ) (b : Bool) → is_added (if b then Same else Differs) ≡ true → ⊥
beside bytes held true is = let no : false ≡ true = is in cc
beside bytes held false is = let no : false ≡ true = is in cc

added_facts : (good : Bool) (bytes : List ℕ) (held : Option (List ℕ)) → is_added (if good then fate_beside bytes held else Skipped) ≡ true → (good ≡ true) × (held ≡ None)
added_facts true bytes None is = (refl, refl)
added_facts true bytes (Some file) is = absurd (beside bytes file (bytes_eq file bytes) is)
added_facts false bytes held is = let no : false ≡ true = is in cc

module _ (from to : List ℕ) (files : Files) where
  abbrev pub added : List (List ℕ)
  added = added_among from to files (entries_in from files)

  abbrev pub outputs : List (List ℕ) → List Output
  outputs names = map (merge_output from to files) names

  pub additions : All (IsAddition from to files) added
  additions k d below =
      let passes = filter_passes (λ name. is_added (fate_of from to files name)) (entries_in from files) k d below in
      let held = All-filter (λ name. is_added (fate_of from to files name)) (λ name. IsHeld name files) (entries_in from files) (entries_held from files) k d below in
      let facts = added_facts (is_good (entry_state from files (get_or added k d))) (bytes_at (get_or added k d) files) (get files (target from to (get_or added k d))) passes in
      record { good = facts.0; free = facts.1; held = held }

  pub named : (name : List ℕ) → IsAddition from to files name → IsNamed from name
  named name adds = good_named from name (bytes_at name files) adds.good

  -- no two are the same
  others : (name : List ℕ) (names : List (List ℕ)) → All (λ later. later ≢ name) names → IsAddition from to files name → All (IsAddition from to files) names → IsOtherName (target from to name) (outputs names)
  others name [] differ adds all = tt
  others name (later ∷ names) differ adds all = (
    target_differs from to later name (named later (All-head (IsAddition from to files) later names all)) (named name adds) (All-head (λ l. l ≢ name) later names differ),
    others name names (All-tail (λ l. l ≢ name) later names differ) adds (All-tail (IsAddition from to files) later names all),
  )

  fresh_from : (names : List (List ℕ)) → AllPairs (λ earlier later. later ≢ earlier) names → All (IsAddition from to files) names → AreFresh (outputs names) files
  fresh_from [] differ all = tt
  fresh_from (name ∷ names) differ all =
      let adds = All-head (IsAddition from to files) name names all in
      let rest = All-tail (IsAddition from to files) name names all in
      (adds.free, others name names (pairs_head name names differ) adds rest, fresh_from names (pairs_tail name names differ) rest)

  pub added_differ : AllPairs (λ earlier later. later ≢ earlier) added
  added_differ = AllPairs-filter (λ earlier later. later ≢ earlier) (λ name. is_added (fate_of from to files name)) (entries_in from files) (entries_differ from files)

  pub fresh : AreFresh (merge_outputs from to files) files
  fresh = fresh_from added added_differ additions

  -- an entry isn't written over
  not_target : (name other : List ℕ) → IsAddition from to files name → IsAddition from to files other → name ≢ target from to other
  not_target name other adds also same =
      let none : get files name ≡ None = ap (get files) same ∙ also.free in
      let here : is_some (get files name) ≡ true = adds.held in
      let no : false ≡ true = sym (ap is_some none) ∙ here in
      cc

  apart_from : (name : List ℕ) (names : List (List ℕ)) → IsAddition from to files name → All (IsAddition from to files) names → IsApartFrom name (outputs names)
  apart_from name [] adds all = tt
  apart_from name (other ∷ names) adds all = (
    named_no_part from name (target from to other) (named name adds),
    not_target name other adds (All-head (IsAddition from to files) other names all),
    apart_from name names adds (All-tail (IsAddition from to files) other names all),
  )

  pub apart : (name : List ℕ) → IsAddition from to files name → IsApartFrom name (merge_outputs from to files)
  apart name adds = apart_from name added adds additions

  -- ---- the entry at a place

  output_at : (names : List (List ℕ)) (i : ℕ) (name : List ℕ) → i < length names → name ≡ get_or names i name → slice_get (outputs names) i ≡ Some (merge_output from to files name)
  output_at [] i name below here = absurd (omega arith)
  output_at (first ∷ names) zero name below here = ap (λ n. Some (merge_output from to files n)) (sym here)
  output_at (first ∷ names) (suc i) name below here = output_at names i name (omega arith) here

  pub planned_at : (names : List (List ℕ)) (i : ℕ) (entry : Planned) → i < length names → entry ≡ get_or (map (planned from to files) names) i entry
      → (entry.name ≡ get_or names i entry.name) × (entry ≡ planned from to files entry.name)
  planned_at [] i entry below here = absurd (omega arith)
  planned_at (first ∷ names) zero entry below here =
      let name : entry.name ≡ first = ap (λ (p : Planned). p.name) here in
      (name, here ∙ ap (planned from to files) (sym name))
  planned_at (first ∷ names) (suc i) entry below here = planned_at names i entry (omega arith) here

  module _ (i : ℕ) (name : List ℕ) (below : i < length added) (here : name ≡ get_or added i name) where
    pub adds_at : IsAddition from to files name
    adds_at = subst (IsAddition from to files) (sym here) (All-get_or (IsAddition from to files) added i name below additions)

    pub next_is : slice_get (merge_outputs from to files) i ≡ Some (merge_output from to files name)
    next_is = output_at added i name below here

    pub still_there : get (after_outputs (take i (merge_outputs from to files)) files) name ≡ get files name
    still_there = get_follows (merge_outputs from to files) i name files (apart name adds_at)

-- ---- what is read

one_length : (name : List ℕ) (files : Files) → lengths_of (name ∷ []) files ≡ length (bytes_at name files)
one_length name files = let all = sum_by-cons (λ n. length (bytes_at n files)) name [] in omega arith

pub both_targets : (from to : List ℕ) (names : List (List ℕ)) (n : ℕ) (files : Files) → lengths_of (map (target from to) (take n names)) files ≤ lengths_of (map (target from to) names) files
both_targets from to names n files =
    subst (λ (l : List (List ℕ)). lengths_of l files ≤ lengths_of (map (target from to) names) files) (take-map (target from to) n names) (sum_by-take-le (λ l. length (bytes_at l files)) (map (target from to) names) n)

module _ (from to : List ℕ) (names : List (List ℕ)) (i : ℕ) (name : List ℕ) (below : i < length names) (here : name ≡ get_or names i name) where
  pub planned_more : (files : Files) → map (planned from to files) (take (i + 1) names) ≡ map (planned from to files) (take i names) ++ planned from to files name ∷ []
  planned_more files = map_more (planned from to files) names i name below ∙ ap (λ (n : List ℕ). map (planned from to files) (take i names) ++ planned from to files n ∷ []) (sym here)

  pub both_next : (files : Files) → (lengths_of (take i names) files + lengths_of (map (target from to) (take i names)) files) + (length (bytes_at name files) + length (bytes_at (target from to name) files))
      ≤ lengths_of (take (i + 1) names) files + lengths_of (map (target from to) (take (i + 1) names)) files
  both_next files =
      let one : lengths_of (take (i + 1) names) files ≡ lengths_of (take i names) files + length (bytes_at (get_or names i name) files) = sum_by_more (λ n. length (bytes_at n files)) names i name below in
      let same : length (bytes_at (get_or names i name) files) ≡ length (bytes_at name files) = ap (λ n. length (bytes_at n files)) (sym here) in
      let more : lengths_of (map (target from to) (take (i + 1) names)) files ≡ lengths_of (map (target from to) (take i names)) files + length (bytes_at (target from to name) files) =
      ap (λ l. lengths_of l files) (map_more (target from to) names i name below ∙ ap (λ (n : List ℕ). map (target from to) (take i names) ++ target from to n ∷ []) (sym here))
      ∙ lengths_of-append (map (target from to) (take i names)) (target from to name ∷ []) files
      ∙ ap (λ n. lengths_of (map (target from to) (take i names)) files + n) (one_length (target from to name) files) in
      omega arith

  pub both_within : (files : Files) → (lengths_of (take i names) files + lengths_of (map (target from to) (take i names)) files) + (length (bytes_at name files) + length (bytes_at (target from to name) files))
      ≤ lengths_of names files + lengths_of (map (target from to) names) files
  both_within files =
      let next = both_next files in
      let a = sum_by-take-le (λ n. length (bytes_at n files)) names (i + 1) in
      let b = both_targets from to names (i + 1) files in
      omega arith

-- ---- one after another

-- the next record that is added: its place among them, and its name in TO
pub record IsNext (from to : List ℕ) (i : ℕ) (name out : List ℕ) (files : Files) : Type 0 where
  pub below : i < length (added from to files)
  pub here : name ≡ get_or (added from to files) i name
  pub out_is : out ≡ target from to name

pub next_of : (from to : List ℕ) (plan : List Planned) (i : ℕ) (entry : Planned) (name out : List ℕ) (files : Files) → plan ≡ map (planned from to files) (added from to files) → i < length plan → entry ≡ get_or plan i entry
    → name ≡ entry.name → out ≡ entry.out → IsNext from to i name out files
next_of from to plan i entry name out files are below here name_is out_is =
    let many : length plan ≡ length (added from to files) = ap length are ∙ length-map (added from to files) (planned from to files) in
    let inside : i < length (added from to files) = omega arith in
    let item : entry ≡ get_or (map (planned from to files) (added from to files)) i entry = here ∙ ap (λ (l : List Planned). get_or l i entry) are in
    let found = planned_at from to files (added from to files) i entry inside item in
    record {
      below = inside;
      here = name_is ∙ found.0 ∙ ap (λ (n : List ℕ). get_or (added from to files) i n) (sym name_is);
      out_is = out_is ∙ ap (λ (p : Planned). p.out) found.1 ∙ ap (target from to) (sym name_is);
    }

pub part_here : (plan : List Planned) (i : ℕ) (entry : Planned) (item : List ℕ) → i < length plan → entry ≡ get_or plan i entry → item ≡ get_or (planned_parts plan) i item → item ≡ part_of entry.out
part_here [] i entry item below here is = absurd (omega arith)
part_here (first ∷ plan) zero entry item below here is = is ∙ ap (λ (p : Planned). part_of p.out) (sym here)
part_here (first ∷ plan) (suc i) entry item below here is = part_here plan i entry item (omega arith) here is

module _ (from to : List ℕ) (i : ℕ) (name out : List ℕ) (files : Files) (next : IsNext from to i name out files) where
  pub next_here : slice_get (merge_outputs from to files) i ≡ Some (output out (bytes_at name files))
  next_here = next_is from to files i name next.below next.here ∙ ap (λ (o : List ℕ). Some (output o (bytes_at name files))) (sym next.out_is)

  pub next_bytes : bytes_at name (after_outputs (take i (merge_outputs from to files)) files) ≡ bytes_at name files
  next_bytes = ap (λ (held : Option (List ℕ)). unwrap_or held []) (still_there from to files i name next.below next.here)

  pub next_is_free : get (after_outputs (take i (merge_outputs from to files)) files) out ≡ None
  next_is_free = next_free (merge_outputs from to files) i (output out (bytes_at name files)) files (fresh from to files) next_here

  pub next_is_good : is_good (entry_state from (after_outputs (take i (merge_outputs from to files)) files) name) ≡ true
  next_is_good =
      ap (λ (bytes : List ℕ). is_good (state_of_bytes from name bytes)) next_bytes
      ∙ (adds_at from to files i name next.below next.here).good

  pub next_fits : (text part : List ℕ) (part_is : part ≡ part_of out) → Fits (merge_outputs from to) text i part out (λ files. bytes_at name files) (λ files. bytes_at name files) part_is files
  next_fits text part part_is = record { here = next_here; made = next_bytes }
