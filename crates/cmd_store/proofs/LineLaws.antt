-- Laws of entries that are looked at one after another.
use Rattle.std.proofs.Common.{◌≡◌, ◌∙◌, ℕ, ◌+◌, ◌<◌, ◌≤◌, List, [], ◌++◌, length, take, get_or, cond, sym, ap, subst, arith}
use Rattle.std.specs.Prelude.{flat_map}
use Rattle.std.proofs.lemmas.List.{flat_map_more, take_more}
use Rattle.std.proofs.lemmas.List.Elements.{All-get_or}
use Rattle.std.proofs.lemmas.List.Filters.{length-filter_more}
use Rattle.std.proofs.lemmas.List.Sums.{sum_by-take-le, sum_by_more}
use Rattle.rip_outside.specs.Files.{Files, IsHeld, bytes_at}
use Rattle.rip_inputs.specs.Opening.{lengths_of}
use Rattle.store_upkeep.specs.Entries.{EntryState, entries_in, entry_state}
use Rattle.store_upkeep.proofs.EntryLaws.{entries_held}
use Rattle.cmd_store.specs.StoreOutcome.{bad_among, is_bad, lines_among}

-- the entry at a place of the list
module _ (names : List (List ℕ)) (i : ℕ) (name : List ℕ) (below : i < length names) (here : name ≡ get_or names i name) where
  pub one_held : (store : List ℕ) (files : Files) → names ≡ entries_in store files → IsHeld name files
  one_held store files are = subst (λ (n : List ℕ). IsHeld n files) (sym here) (All-get_or (λ n. IsHeld n files) names i name below (rw are (entries_held store files)))

  pub lines_more : (line_by : List ℕ → EntryState → List ℕ) (store : List ℕ) (files : Files)
      → lines_among line_by store files (take (i + 1) names) ≡ lines_among line_by store files (take i names) ++ line_by name (entry_state store files name)
  lines_more line_by store files =
      let line : List ℕ → List ℕ = λ n. line_by n (entry_state store files n) in
      ap (flat_map line) (take_more names i name below) ∙ sym (flat_map_more line [] (take i names) (get_or names i name))
      ∙ ap (λ (n : List ℕ). lines_among line_by store files (take i names) ++ line_by n (entry_state store files n)) (sym here)

  pub bad_more : (store : List ℕ) (files : Files) → bad_among store files (take (i + 1) names) ≡ bad_among store files (take i names) + cond (is_bad store files name) 1 0
  bad_more store files =
      length-filter_more (is_bad store files) names i name below ∙ ap (λ (n : List ℕ). bad_among store files (take i names) + cond (is_bad store files n) 1 0) (sym here)

  pub lengths_next : (files : Files) → lengths_of (take i names) files + length (bytes_at name files) ≤ lengths_of (take (i + 1) names) files
  lengths_next files =
      let more : lengths_of (take (i + 1) names) files ≡ lengths_of (take i names) files + length (bytes_at (get_or names i name) files) = sum_by_more (λ n. length (bytes_at n files)) names i name below in
      let same : length (bytes_at (get_or names i name) files) ≡ length (bytes_at name files) = ap (λ n. length (bytes_at n files)) (sym here) in
      omega arith

  pub lengths_within : (files : Files) → lengths_of (take i names) files + length (bytes_at name files) ≤ lengths_of names files
  lengths_within files = let next = lengths_next files in let all = sum_by-take-le (λ n. length (bytes_at n files)) names (i + 1) in omega arith

pub lengths_so_far : (names : List (List ℕ)) (i : ℕ) (files : Files) → lengths_of (take i names) files ≤ lengths_of names files
lengths_so_far names i files = sum_by-take-le (λ n. length (bytes_at n files)) names i
