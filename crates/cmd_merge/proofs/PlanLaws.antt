-- What is planned, and what comes of it.
use Rattle.std.proofs.Common.{◌≡◌, ◌∙◌, ℕ, ◌≤◌, List, [], ◌∷◌, ◌++◌, length, map, Bool, true, false, cond, refl, ap, arith}
use Rattle.std.specs.Prelude.{filter, flat_map}
use Rattle.std.proofs.lemmas.List.{length-map}
use Rattle.std.proofs.lemmas.List.Sums.{sum_by-cons}
use Rattle.rip_inputs.specs.Opening.{lengths_of}
use Rattle.rip_inputs.proofs.LengthLaws.{lengths_of-append}
use Rattle.rip_outside.specs.Files.{Files, bytes_at}
use Rattle.rip_report.specs.Stores.{merged_line}
use Rattle.store_upkeep.specs.Entries.{entries_in}
use Rattle.cmd_merge.specs.declared.fate.Fate.{Fate}
use Rattle.cmd_merge.specs.declared.planning.Planned.{Planned}
use Rattle.cmd_merge.specs.MergeOutcome.{added_among, counts_line, fate_lines, fate_of, is_added, is_differing, is_same, is_skipped, line_of_entry, many, merged_names, target}
use Rattle.cmd_merge.specs.Planning.{additions, count_planned, planned, planned_lines}

filter_mapped : {A B : Type 0} (p : B → Bool) (f : A → B) (xs : List A) → filter p (map f xs) ≡ map f (filter (λ x. p (f x)) xs)
filter_mapped p f [] = refl
filter_mapped p f (x ∷ xs) = by (p (f x)) (filter_mapped p f xs)
  where
    by : (b : Bool) → filter p (map f xs) ≡ map f (filter (λ y. p (f y)) xs) → cond b (f x ∷ filter p (map f xs)) (filter p (map f xs)) ≡ map f (cond b (x ∷ filter (λ y. p (f y)) xs) (filter (λ y. p (f y)) xs))
    by true rest = ap (λ l. f x ∷ l) rest
    by false rest = rest

flat_mapped : {A B C : Type 0} (line : B → List C) (f : A → B) (xs : List A) → flat_map line (map f xs) ≡ flat_map (λ x. line (f x)) xs
flat_mapped line f [] = refl
flat_mapped line f (x ∷ xs) = ap (λ l. line (f x) ++ l) (flat_mapped line f xs)

-- what is told of a plan
abbrev pub told_plan : List Planned → List ℕ
told_plan plan = planned_lines plan ++ merged_line (count_planned is_added plan) (count_planned is_same plan) (count_planned is_differing plan) (count_planned is_skipped plan)

module _ (from to : List ℕ) (files : Files) (names : List (List ℕ)) where
  pub lines_planned : planned_lines (map (planned from to files) names) ≡ fate_lines from to files names
  lines_planned = flat_mapped (λ (p : Planned). line_of_entry p.name p.out p.fate) (planned from to files) names

  counted : (has : Fate → Bool) → count_planned has (map (planned from to files) names) ≡ many has from to files names
  counted has = ap length (filter_mapped (λ (p : Planned). has p.fate) (planned from to files) names) ∙ length-map (filter (λ name. has (fate_of from to files name)) names) (planned from to files)

  pub text_planned : planned_lines (map (planned from to files) names) ++ merged_line (count_planned is_added (map (planned from to files) names)) (count_planned is_same (map (planned from to files) names)) (count_planned is_differing (map (planned from to files) names)) (count_planned is_skipped (map (planned from to files) names))
      ≡ fate_lines from to files names ++ counts_line from to files names
  text_planned = rw (lines_planned, counted is_added, counted is_same, counted is_differing, counted is_skipped) refl

  pub additions_planned : additions (map (planned from to files) names) ≡ map (planned from to files) (added_among from to files names)
  additions_planned = filter_mapped (λ (p : Planned). is_added p.fate) (planned from to files) names

-- what is added was read
pub lengths_added : (p : List ℕ → Bool) (names : List (List ℕ)) (files : Files) → lengths_of (filter p names) files ≤ lengths_of names files
lengths_added p [] files = omega arith
lengths_added p (name ∷ names) files =
    let rest = lengths_added p names files in
    let all = sum_by-cons (λ n. length (bytes_at n files)) name names in
    by (p name) (let one = sum_by-cons (λ n. length (bytes_at n files)) name (filter p names) in omega arith) (omega arith)
  where
    by : (b : Bool) → lengths_of (name ∷ filter p names) files ≤ lengths_of (name ∷ names) files → lengths_of (filter p names) files ≤ lengths_of (name ∷ names) files
        → lengths_of (cond b (name ∷ filter p names) (filter p names)) files ≤ lengths_of (name ∷ names) files
    by true kept left = kept
    by false kept left = left

pub entries_within : (from to : List ℕ) (files : Files) → lengths_of (entries_in from files) files ≤ lengths_of (merged_names from to files) files
entries_within from to files = let both = lengths_of-append (entries_in from files) (map (target from to) (entries_in from files)) files in omega arith
