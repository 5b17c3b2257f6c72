-- Discs of a batch that have nothing to do with one another.
use Rattle.std.specs.Prelude.{◌≡◌, ℕ, Contains, false, List, [], ◌∷◌, ◌++◌, flat_map, length, slice_get, take, Option, None, Some, IfSome, Result, Ok, Err}
use Rattle.rip_outside.specs.Files.{Files}
use Rattle.rip_outside.specs.Listing.{stands_in}
use Rattle.rip_outside.specs.Outputs.{Output, part_of}
use Rattle.rip_inputs.specs.Opening.{Opened, names_read}
use Rattle.rip_words.specs.Command.{command_reading}
use Rattle.rip_words.specs.declared.Command.{Command}
use Rattle.rip_words.specs.declared.Command.TheVariants.{Register, Verify, Offsets, Repair, Upgrade, MatchSums, Sums, Trial, Split, Join, ListStore, CheckStore, MergeStores}
use Rattle.rip_report.specs.declared.status.Status.{Status}
use Rattle.track_split.specs.Tracks.{join_names, split_names}
use Rattle.store_upkeep.specs.Entries.{entries_in}
use Rattle.engine_steps.specs.Comparing.{compared_names}
use Rattle.engine_steps.specs.Outcome.{Outcome}
use Rattle.engine_steps.specs.Steps.{opened}
use Rattle.cmd_match.specs.MatchOutcome.{matched_names}
use Rattle.cmd_merge.specs.MergeOutcome.{merged_names}
use Rattle.rip_commands.specs.Outcomes.{IsOutcomeOf}
use Rattle.cmd_batch.specs.BatchOutcome.{AreOutcomes}

-- the names of a rip's tracks and their sheet in a folder, once its layout is known
abbrev pub split_under : List ℕ → Result Opened Status → List (List ℕ)
split_under folder (Ok rip) = split_names folder (length rip.toc.starts)
split_under folder (Err status) = []

-- The names that a command reads or tests, by the files: those of the rip, the record and the response as far as they are read, of the
-- entries of a store, and of all that it writes.
abbrev pub names_met : Command → Files → List (List ℕ)
names_met (Register input rec npar) files = compared_names input rec files
names_met (Verify input rec offset) files = compared_names input rec files
names_met (Offsets input rec) files = compared_names input rec files
names_met (Repair input rec to offset) files = compared_names input rec files ++ to ∷ []
names_met (Upgrade input rec) files = compared_names input rec files
names_met (MatchSums input resp) files = matched_names input resp files
names_met (Sums input) files = names_read input files
names_met (Split input folder) files = names_read input files ++ split_under folder (opened input files)
names_met (Join input to) files = names_read input files ++ join_names to
names_met (ListStore folder) files = entries_in folder files
names_met (CheckStore folder) files = entries_in folder files
names_met (MergeStores from to) files = merged_names from to files
names_met (Trial sectors seed shift hits) files = []

-- the folder that a command lists
abbrev pub folder_listed : Command → Option (List ℕ)
folder_listed (ListStore folder) = Some folder
folder_listed (CheckStore folder) = Some folder
folder_listed (MergeStores from to) = Some from
folder_listed _ = None

-- The words have nothing to do with a name: the command neither reads nor tests it, and doesn't list the folder where it stands.
abbrev pub IsApart : Result Command ℕ → Files → List ℕ → Type 0
IsApart (Err word) files name = Unit {0}
IsApart (Ok command) files name = (Contains (names_met command files) name → ⊥) × IfSome (folder_listed command) (λ folder. stands_in folder name ≡ false)

-- the names that are written, and those under which that is made
abbrev pub names_written : List Outcome → List (List ℕ)
names_written outcomes = flat_map (λ outcome. flat_map (λ (out : Output). out.name ∷ part_of out.name ∷ []) outcome.outputs) outcomes

-- Where a disc has nothing to do with the names that the discs before it write, it comes to what its words come to over the files that
-- there were at the start.
abbrev pub DiscsAreIndependent : List (List (List ℕ)) → Files → List Outcome → Type 0
DiscsAreIndependent discs files outcomes = AreOutcomes discs files outcomes →
    (i : ℕ) (words : List (List ℕ)) (outcome : Outcome) → slice_get discs i ≡ Some words → slice_get outcomes i ≡ Some outcome →
    ((name : List ℕ) → Contains (names_written (take i outcomes)) name → IsApart (command_reading words) files name) → IsOutcomeOf (command_reading words) files outcome
