-- A command comes to the same where all that it meets is the same.
use Rattle.std.proofs.Common.{◌≡◌, ◌∙◌, ℕ, suc, Bool, true, false, cond, List, [], ◌∷◌, ◌++◌, length, map, Option, Result, refl, ap, ap₂, subst}
use Rattle.std.specs.Prelude.{IfSome, filter, flat_map, not, unwrap_or}
use Rattle.std.specs.Option.{option_to_list}
use Rattle.std.specs.FinMap.{get}
use Rattle.rip_outside.specs.Files.{Files, bytes_at}
use Rattle.rip_outside.specs.Listing.{names_in}
use Rattle.rip_outside.specs.Outputs.{Output}
use Rattle.column_map.specs.Npar.{parity_words}
use Rattle.parity_store.specs.Naming.{record_name_of}
use Rattle.accurip_match.specs.Name.{response_name}
use Rattle.rip_inputs.specs.Opening.{Opened, names_read}
use Rattle.rip_words.specs.declared.Command.{Command}
use Rattle.rip_words.specs.declared.Command.TheVariants.{Register, Verify, Offsets, Repair, Upgrade, MatchSums, Sums, Trial, Split, Join, ListStore, CheckStore, MergeStores}
use Rattle.rip_report.specs.Stores.{checked_line, merged_line}
use Rattle.rip_report.specs.declared.status.Status.{Status}
use Rattle.rip_report.specs.declared.status.Status.TheVariants.{Done}
use Rattle.track_split.specs.Tracks.{join_names, split_names}
use Rattle.store_upkeep.specs.Entries.{EntryState, entries_in, entry_state, is_entry, state_of_bytes}
use Rattle.engine_steps.specs.Comparing.{compared_names, record_under}
use Rattle.engine_steps.specs.Outcome.{Outcome, Then, answered, output, written}
use Rattle.engine_steps.specs.Steps.{Known, compared, free, measured, opened}
use Rattle.cmd_register.specs.RegisterOutcome.{registered}
use Rattle.cmd_match.specs.MatchOutcome.{response_bytes, response_found, response_under}
use Rattle.cmd_split.specs.SplitOutcome.{split_in}
use Rattle.cmd_join.specs.JoinOutcome.{joined_as}
use Rattle.cmd_store.specs.StoreOutcome.{checked_status, faulty_line, is_bad, listed_line, lines_among}
use Rattle.cmd_merge.specs.declared.fate.Fate.{Fate}
use Rattle.cmd_merge.specs.declared.fate.Fate.TheVariants.{Skipped}
use Rattle.cmd_merge.specs.MergeOutcome.{added_among, counts_line, fate_beside, fate_lines, fate_of, is_added, is_differing, is_same, is_skipped, line_of_entry, many, merge_output, merge_outputs, merge_text, target}
use Rattle.store_upkeep.specs.Looking.{is_good}
use Rattle.rip_commands.specs.Outcomes.{IsCommandOutcome}
use Rattle.cmd_batch.specs.Apart.{folder_listed, names_met, split_under}
use Rattle.cmd_batch.proofs.SameLaws.{SameAt, compared_same, filter_same, flat_map_same, free_same, measured_same, opened_same, same_back, same_front, then_so}

-- ---- after the steps of a rip and a record

module _ (input rec : List ℕ) (files others : Files) (outcome : Outcome) (same : SameAt (compared_names input rec files) files others) where
  -- what comes of the comparison
  compared_so : (next : Known × List (List ℕ) → Outcome → Type 0) → Then (compared input rec others) next outcome → Then (compared input rec files) next outcome
  compared_so next is = subst (λ (r : Result (Known × List (List ℕ)) Status). Then r next outcome) (compared_same input rec files others same) is

  front : SameAt (names_read input files) files others
  front = same_front (names_read input files) (option_to_list (record_under rec (measured input files))) files others same

  back : SameAt (option_to_list (record_under rec (measured input files))) files others
  back = same_back (names_read input files) (option_to_list (record_under rec (measured input files))) files others same

  measured_so : (next : Opened → Outcome → Type 0) → Then (measured input others) next outcome → Then (measured input files) next outcome
  measured_so next is = subst (λ (r : Result Opened Status). Then r next outcome) (measured_same input files others front) is

  register_so : (count : ℕ)
      → Then (measured input others) (λ rip. Then (free (record_name_of rec rip.toc ∷ []) rip.names others) (λ _ o. o ≡ registered (record_name_of rec rip.toc) count rip)) outcome
      → Then (measured input files) (λ rip. Then (free (record_name_of rec rip.toc ∷ []) rip.names files) (λ _ o. o ≡ registered (record_name_of rec rip.toc) count rip)) outcome
  register_so count is =
      then_so (measured input files) _ _ outcome
      (λ rip opens freed.
      let here : SameAt (record_name_of rec rip.toc ∷ []) files others = subst (λ (r : Result Opened Status). SameAt (option_to_list (record_under rec r)) files others) opens back in
      subst (λ (r : Result (Unit {0}) Status). Then r (λ _ o. o ≡ registered (record_name_of rec rip.toc) count rip) outcome) (free_same (record_name_of rec rip.toc ∷ []) rip.names files others here) freed)
      (measured_so _ is)

-- ---- after the steps of a rip alone

module _ (input : List ℕ) (files others : Files) (outcome : Outcome) where
  opened_so : SameAt (names_read input files) files others → (next : Opened → Outcome → Type 0) → Then (opened input others) next outcome → Then (opened input files) next outcome
  opened_so same next is = subst (λ (r : Result Opened Status). Then r next outcome) (opened_same input files others same) is

  match_so : (resp : List ℕ) (next : Opened → List ℕ → Outcome → Type 0) → SameAt (names_read input files ++ option_to_list (response_under resp (opened input files))) files others
      → Then (opened input others) (λ rip. Then (response_bytes (response_name resp rip.toc) others) (next rip)) outcome
      → Then (opened input files) (λ rip. Then (response_bytes (response_name resp rip.toc) files) (next rip)) outcome
  match_so resp next same is =
      let back = same_back (names_read input files) (option_to_list (response_under resp (opened input files))) files others same in
      then_so (opened input files) _ _ outcome
      (λ rip opens read.
      let here : SameAt (response_name resp rip.toc ∷ []) files others = subst (λ (r : Result Opened Status). SameAt (option_to_list (response_under resp r)) files others) opens back in
      subst (λ (held : Option (List ℕ)). Then (response_found (response_name resp rip.toc) held) (next rip) outcome) here.0 read)
      (opened_so (same_front (names_read input files) (option_to_list (response_under resp (opened input files))) files others same) _ is)

  split_so : (folder : List ℕ) → SameAt (names_read input files ++ split_under folder (opened input files)) files others
      → Then (opened input others) (λ rip. Then (free (split_names folder (length rip.toc.starts)) rip.names others) (λ _ o. o ≡ split_in folder rip)) outcome
      → Then (opened input files) (λ rip. Then (free (split_names folder (length rip.toc.starts)) rip.names files) (λ _ o. o ≡ split_in folder rip)) outcome
  split_so folder same is =
      let back = same_back (names_read input files) (split_under folder (opened input files)) files others same in
      then_so (opened input files) _ _ outcome
      (λ rip opens freed.
      let here : SameAt (split_names folder (length rip.toc.starts)) files others = subst (λ (r : Result Opened Status). SameAt (split_under folder r) files others) opens back in
      subst (λ (r : Result (Unit {0}) Status). Then r (λ _ o. o ≡ split_in folder rip) outcome) (free_same (split_names folder (length rip.toc.starts)) rip.names files others here) freed)
      (opened_so (same_front (names_read input files) (split_under folder (opened input files)) files others same) _ is)

  join_so : (to : List ℕ) → SameAt (names_read input files ++ join_names to) files others
      → Then (opened input others) (λ rip. Then (free (join_names to) rip.names others) (λ _ o. o ≡ joined_as to rip)) outcome
      → Then (opened input files) (λ rip. Then (free (join_names to) rip.names files) (λ _ o. o ≡ joined_as to rip)) outcome
  join_so to same is =
      then_so (opened input files) _ _ outcome
      (λ rip opens freed. subst (λ (r : Result (Unit {0}) Status). Then r (λ _ o. o ≡ joined_as to rip) outcome)
      (free_same (join_names to) rip.names files others (same_back (names_read input files) (join_names to) files others same)) freed)
      (opened_so (same_front (names_read input files) (join_names to) files others same) _ is)

repair_so : (input rec to : List ℕ) (files others : Files) (outcome : Outcome) (next : Known × List (List ℕ) → Outcome → Type 0) → SameAt (compared_names input rec files ++ to ∷ []) files others
    → Then (compared input rec others) (λ found. Then (free (to ∷ []) found.1 others) (λ _. next found)) outcome
    → Then (compared input rec files) (λ found. Then (free (to ∷ []) found.1 files) (λ _. next found)) outcome
repair_so input rec to files others outcome next same is =
    then_so (compared input rec files) _ _ outcome
    (λ found compares freed. subst (λ (r : Result (Unit {0}) Status). Then r (λ _. next found) outcome) (free_same (to ∷ []) found.1 files others (same_back (compared_names input rec files) (to ∷ []) files others same)) freed)
    (compared_so input rec files others outcome (same_front (compared_names input rec files) (to ∷ []) files others same) _ is)

-- ---- stores

-- an entry that holds the same is the same
state_same : (store : List ℕ) (files others : Files) (name : List ℕ) → get others name ≡ get files name → entry_state store others name ≡ entry_state store files name
state_same store files others name same = ap (λ (held : Option (List ℕ)). state_of_bytes store name (unwrap_or held [])) same

lines_same : (line_by : List ℕ → EntryState → List ℕ) (store : List ℕ) (files others : Files) (names : List (List ℕ)) → SameAt names files others
    → lines_among line_by store others names ≡ lines_among line_by store files names
lines_same line_by store files others names same =
    flat_map_same (λ name. line_by name (entry_state store others name)) (λ name. line_by name (entry_state store files name)) names files others (λ name here. ap (line_by name) (state_same store files others name here)) same

list_so : (store : List ℕ) (files others : Files) → names_in store others ≡ names_in store files → SameAt (entries_in store files) files others
    → answered Done (lines_among listed_line store others (entries_in store others)) ≡ answered Done (lines_among listed_line store files (entries_in store files))
list_so store files others listed same =
    ap (λ (names : List (List ℕ)). answered Done (lines_among listed_line store others (filter is_entry names))) listed ∙ ap (answered Done) (lines_same listed_line store files others (entries_in store files) same)

check_so : (store : List ℕ) (files others : Files) → names_in store others ≡ names_in store files → SameAt (entries_in store files) files others → (outcome : Outcome)
    → IsCommandOutcome (CheckStore store) others outcome → IsCommandOutcome (CheckStore store) files outcome
check_so store files others listed same outcome is =
    let told : (List ℕ → Bool) → List ℕ → List (List ℕ) → Outcome =
    λ bad lines names. answered (checked_status (length (filter bad names))) (lines ++ checked_line (length names) (length (filter bad names))) in
    let bad = filter_same (is_bad store others) (is_bad store files) (entries_in store files) files others (λ name here. ap (λ (s : EntryState). not (is_good s)) (state_same store files others name here)) same in
    is
    ∙ ap (λ (names : List (List ℕ)). told (is_bad store others) (lines_among faulty_line store others (filter is_entry names)) (filter is_entry names)) listed
    ∙ ap₂ (λ (lines : List ℕ) (some : List (List ℕ)). answered (checked_status (length some)) (lines ++ checked_line (length (entries_in store files)) (length some)))
    (lines_same faulty_line store files others (entries_in store files) same) bad

-- ---- a merge

module _ (from to : List ℕ) (files others : Files) where
  -- an entry and its name in TO hold the same
  abbrev Both : List ℕ → Type 0
  Both name = (get others name ≡ get files name) × (get others (target from to name) ≡ get files (target from to name))

  abbrev AllBoth : List (List ℕ) → Type 0
  AllBoth [] = Unit {0}
  AllBoth (name ∷ names) = Both name × AllBoth names

  both_of : (names : List (List ℕ)) → SameAt names files others → SameAt (map (target from to) names) files others → AllBoth names
  both_of [] here there = tt
  both_of (name ∷ names) here there = ((here.0, there.0), both_of names here.1 there.1)

  fate_same : (name : List ℕ) → Both name → fate_of from to others name ≡ fate_of from to files name
  fate_same name both =
      ap₂ (λ (held beside : Option (List ℕ)). cond (is_good (state_of_bytes from name (unwrap_or held []))) (fate_beside (unwrap_or held []) beside) Skipped) both.0 both.1

  many_same : (has : Fate → Bool) (names : List (List ℕ)) → AllBoth names → many has from to others names ≡ many has from to files names
  many_same has [] all = refl
  many_same has (name ∷ names) all = by (has (fate_of from to others name)) (has (fate_of from to files name)) (ap has (fate_same name all.0)) (many_same has names all.1)
    where
      by : (a b : Bool) → a ≡ b → many has from to others names ≡ many has from to files names
          → length (cond a (name ∷ filter (λ n. has (fate_of from to others n)) names) (filter (λ n. has (fate_of from to others n)) names))
          ≡ length (cond b (name ∷ filter (λ n. has (fate_of from to files n)) names) (filter (λ n. has (fate_of from to files n)) names))
      by true true e rest = ap suc rest
      by false false e rest = rest
      by true false e rest = cc
      by false true e rest = cc

  lines_of : (names : List (List ℕ)) → AllBoth names
      → flat_map (λ name. line_of_entry name (target from to name) (fate_of from to others name)) names ≡ flat_map (λ name. line_of_entry name (target from to name) (fate_of from to files name)) names
  lines_of [] all = refl
  lines_of (name ∷ names) all = ap₂ (λ (a b : List ℕ). a ++ b) (ap (line_of_entry name (target from to name)) (fate_same name all.0)) (lines_of names all.1)

  outputs_same : (names : List (List ℕ)) → AllBoth names → map (merge_output from to others) (added_among from to others names) ≡ map (merge_output from to files) (added_among from to files names)
  outputs_same [] all = refl
  outputs_same (name ∷ names) all = by (is_added (fate_of from to others name)) (is_added (fate_of from to files name)) (ap is_added (fate_same name all.0)) (outputs_same names all.1)
    where
      bytes : bytes_at name others ≡ bytes_at name files
      bytes = ap (λ (held : Option (List ℕ)). unwrap_or held []) all.0.0

      by : (a b : Bool) → a ≡ b → map (merge_output from to others) (added_among from to others names) ≡ map (merge_output from to files) (added_among from to files names)
          → map (merge_output from to others) (cond a (name ∷ added_among from to others names) (added_among from to others names))
          ≡ map (merge_output from to files) (cond b (name ∷ added_among from to files names) (added_among from to files names))
      by true true e rest = ap₂ (λ (content : List ℕ) (outs : List Output). output (target from to name) content ∷ outs) bytes rest
      by false false e rest = rest
      by true false e rest = cc
      by false true e rest = cc

  counts_same : (names : List (List ℕ)) → AllBoth names → counts_line from to others names ≡ counts_line from to files names
  counts_same names all =
      ap₂ (λ (a b : ℕ). merged_line a b (many is_differing from to others names) (many is_skipped from to others names)) (many_same is_added names all) (many_same is_same names all)
      ∙ ap₂ (λ (a b : ℕ). merged_line (many is_added from to files names) (many is_same from to files names) a b) (many_same is_differing names all) (many_same is_skipped names all)

  merge_so : names_in from others ≡ names_in from files → SameAt (entries_in from files ++ map (target from to) (entries_in from files)) files others
      → written (merge_text from to others) (merge_outputs from to others) ≡ written (merge_text from to files) (merge_outputs from to files)
  merge_so listed same =
      let entries = entries_in from files in
      let all : AllBoth (entries_in from files) = both_of entries (same_front entries (map (target from to) entries) files others same) (same_back entries (map (target from to) entries) files others same) in
      ap (λ (names : List (List ℕ)). written (fate_lines from to others (filter is_entry names) ++ counts_line from to others (filter is_entry names)) (map (merge_output from to others) (added_among from to others (filter is_entry names)))) listed
      ∙ ap₂ (λ (text : List ℕ) (outs : List Output). written text outs) (ap₂ (λ (a b : List ℕ). a ++ b) (lines_of entries all) (counts_same entries all)) (outputs_same entries all)

-- ---- any command

pub command_so : (command : Command) (files others : Files) → SameAt (names_met command files) files others → IfSome (folder_listed command) (λ folder. names_in folder others ≡ names_in folder files)
    → (outcome : Outcome) → IsCommandOutcome command others outcome → IsCommandOutcome command files outcome
command_so (Register input rec npar) files others same listed outcome is = register_so input rec files others outcome same (parity_words npar) is
command_so (Verify input rec offset) files others same listed outcome is = compared_so input rec files others outcome same _ is
command_so (Offsets input rec) files others same listed outcome is = compared_so input rec files others outcome same _ is
command_so (Repair input rec to offset) files others same listed outcome is = repair_so input rec to files others outcome _ same is
command_so (Upgrade input rec) files others same listed outcome is =
    then_so (measured input files) _ _ outcome (λ rip _ next. compared_so input rec files others outcome same _ next) (measured_so input rec files others outcome same _ is)
command_so (MatchSums input resp) files others same listed outcome is = match_so input files others outcome resp _ same is
command_so (Sums input) files others same listed outcome is = opened_so input files others outcome same _ is
command_so (Split input folder) files others same listed outcome is = split_so input files others outcome folder same is
command_so (Join input to) files others same listed outcome is = join_so input files others outcome to same is
command_so (ListStore folder) files others same listed outcome is = is ∙ list_so folder files others listed same
command_so (CheckStore folder) files others same listed outcome is = check_so folder files others listed same outcome is
command_so (MergeStores from to) files others same listed outcome is = is ∙ merge_so from to files others listed same
command_so (Trial sectors seed shift hits) files others same listed outcome is = is
