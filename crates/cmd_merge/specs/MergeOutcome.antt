-- What `merge` comes to.
use Rattle.std.specs.Prelude.{◌≡◌, ℕ, Bool, true, false, List, ◌++◌, codes, drop, length, filter, flat_map, map, Option, None, Some, if◌then◌else◌}
use Rattle.std.specs.Str.{bytes_eq}
use Rattle.std.specs.FinMap.{get}
use Rattle.rip_outside.specs.Files.{Files, bytes_at}
use Rattle.rip_outside.specs.Outputs.{Output}
use Rattle.store_upkeep.specs.Entries.{entries_in, entry_state}
use Rattle.store_upkeep.specs.Looking.{is_good}
use Rattle.rip_report.specs.Stores.{fate_line, merged_line}
use Rattle.engine_steps.specs.Outcome.{Outcome, output, written}
use Rattle.cmd_merge.specs.declared.fate.Fate.{Fate}
use Rattle.cmd_merge.specs.declared.fate.Fate.TheVariants.{Added, Same, Differs, Skipped}

-- the name of an entry of FROM, with TO in FROM's place
abbrev pub target : List ℕ → List ℕ → List ℕ → List ℕ
target from to name = to ++ drop (length from) name

-- A good entry is added where no file has its name in TO. Where a file has it, that stays, with the same bytes or with others.
abbrev pub fate_beside : List ℕ → Option (List ℕ) → Fate
fate_beside bytes None = Added
fate_beside bytes (Some held) = if bytes_eq held bytes then Same else Differs

-- what becomes of an entry of FROM: a bad one is skipped
abbrev pub fate_of : List ℕ → List ℕ → Files → List ℕ → Fate
fate_of from to files name = if is_good (entry_state from files name) then fate_beside (bytes_at name files) (get files (target from to name)) else Skipped

-- ---- the lines

-- the line of an entry: with the name in TO of a good one, and with the name in FROM of a bad one
abbrev pub line_of_entry : List ℕ → List ℕ → Fate → List ℕ
line_of_entry name out Added = fate_line (codes "added") out
line_of_entry name out Same = fate_line (codes "same") out
line_of_entry name out Differs = fate_line (codes "differs") out
line_of_entry name out Skipped = fate_line (codes "skipped") name

-- the lines of these entries, one after another
abbrev pub fate_lines : List ℕ → List ℕ → Files → List (List ℕ) → List ℕ
fate_lines from to files names = flat_map (λ name. line_of_entry name (target from to name) (fate_of from to files name)) names

-- the fates told apart
abbrev pub is_added : Fate → Bool
is_added Added = true
is_added fate = false

abbrev pub is_same : Fate → Bool
is_same Same = true
is_same fate = false

abbrev pub is_differing : Fate → Bool
is_differing Differs = true
is_differing fate = false

abbrev pub is_skipped : Fate → Bool
is_skipped Skipped = true
is_skipped fate = false

-- how many of these entries have such a fate
abbrev pub many : (Fate → Bool) → List ℕ → List ℕ → Files → List (List ℕ) → ℕ
many has from to files names = length (filter (λ name. has (fate_of from to files name)) names)

-- the last line: how many entries have each fate
abbrev pub counts_line : List ℕ → List ℕ → Files → List (List ℕ) → List ℕ
counts_line from to files names =
    merged_line (many is_added from to files names) (many is_same from to files names) (many is_differing from to files names) (many is_skipped from to files names)

abbrev pub merge_text : List ℕ → List ℕ → Files → List ℕ
merge_text from to files = fate_lines from to files (entries_in from files) ++ counts_line from to files (entries_in from files)

-- ---- what is written

-- the entries of FROM that are added to TO, in their order
abbrev pub added_among : List ℕ → List ℕ → Files → List (List ℕ) → List (List ℕ)
added_among from to files names = filter (λ name. is_added (fate_of from to files name)) names

-- an entry of FROM under its name in TO, with the bytes that it has
abbrev pub merge_output : List ℕ → List ℕ → Files → List ℕ → Output
merge_output from to files name = output (target from to name) (bytes_at name files)

abbrev pub merge_outputs : List ℕ → List ℕ → Files → List Output
merge_outputs from to files = map (merge_output from to files) (added_among from to files (entries_in from files))

-- `merge FROM TO` writes each good record of FROM under its name in TO, where no file has that name, and tells what became of each entry.
abbrev pub IsMergeOutcome : List ℕ → List ℕ → Files → Outcome → Type 0
IsMergeOutcome from to files outcome = outcome ≡ written (merge_text from to files) (merge_outputs from to files)

-- ---- the names that are read

-- the entries of FROM, and their names in TO
abbrev pub merged_names : List ℕ → List ℕ → Files → List (List ℕ)
merged_names from to files = entries_in from files ++ map (target from to) (entries_in from files)
