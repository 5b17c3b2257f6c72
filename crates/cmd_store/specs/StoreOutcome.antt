-- What `list` and `check` come to.
use Rattle.std.specs.Prelude.{◌≡◌, ℕ, ◌==◌, Bool, not, List, [], ◌++◌, length, filter, flat_map, Option, None, Some, if◌then◌else◌}
use Rattle.rip_outside.specs.Files.{Files}
use Rattle.parity_store.specs.Reading.{Stored}
use Rattle.store_upkeep.specs.Entries.{EntryState, Good, Bad, Misnamed, entries_in, entry_state}
use Rattle.store_upkeep.specs.Looking.{is_good}
use Rattle.store_upkeep.specs.declared.looking.LookFail.{LookFail}
use Rattle.store_upkeep.specs.declared.looking.LookFail.TheVariants.{ReadFault, Oom}
use Rattle.rip_report.specs.Stores.{bad_line, checked_line, misnamed_line, stored_line}
use Rattle.rip_report.specs.declared.status.Status.{Status}
use Rattle.rip_report.specs.declared.status.Status.TheVariants.{Done, BadRecords}
use Rattle.engine_steps.specs.Outcome.{Outcome, answered}
use Rattle.engine_steps.specs.declared.steps.Stop.{Stop}
use Rattle.engine_steps.specs.declared.steps.Stop.TheVariants.{ReadFault as ReadStop, Oom as WantStop}

-- a record with a seal is of version 2, any other of version 1
abbrev pub version_of : Option (List ℕ) → ℕ
version_of None = 1
version_of (Some seal) = 2

-- the line of a good record
abbrev pub line_of_stored : List ℕ → Stored → List ℕ
line_of_stored name stored = stored_line name (version_of stored.seal) stored.count stored.toc.sectors (length stored.toc.starts)

-- what `list` prints of an entry: of a bad one nothing
abbrev pub listed_line : List ℕ → EntryState → List ℕ
listed_line name (Good stored) = line_of_stored name stored
listed_line name (Bad kind) = []
listed_line name (Misnamed key) = []

-- what `check` prints of an entry: of a good one nothing
abbrev pub faulty_line : List ℕ → EntryState → List ℕ
faulty_line name (Good stored) = []
faulty_line name (Bad kind) = bad_line name kind
faulty_line name (Misnamed key) = misnamed_line name key

-- an entry is bad
abbrev pub is_bad : List ℕ → Files → List ℕ → Bool
is_bad store files name = not (is_good (entry_state store files name))

-- how many of these entries are bad
abbrev pub bad_among : List ℕ → Files → List (List ℕ) → ℕ
bad_among store files names = length (filter (is_bad store files) names)

-- the lines of these entries, one after another
abbrev pub lines_among : (List ℕ → EntryState → List ℕ) → List ℕ → Files → List (List ℕ) → List ℕ
lines_among line_by store files names = flat_map (λ name. line_by name (entry_state store files name)) names

-- success, or how many records are bad
abbrev pub checked_status : ℕ → Status
checked_status bad = if bad == 0 then Done else BadRecords bad

-- `list FOLDER` prints a line for each good record of the store.
abbrev pub IsListOutcome : List ℕ → Files → Outcome → Type 0
IsListOutcome store files outcome = outcome ≡ answered Done (lines_among listed_line store files (entries_in store files))

-- `check FOLDER` prints a line for each bad record of the store, and then how many entries there are and how many are bad.
abbrev pub IsCheckOutcome : List ℕ → Files → Outcome → Type 0
IsCheckOutcome store files outcome =
    outcome ≡ answered (checked_status (bad_among store files (entries_in store files)))
    (lines_among faulty_line store files (entries_in store files) ++ checked_line (length (entries_in store files)) (bad_among store files (entries_in store files)))

-- how a look's failure is passed on
abbrev pub look_stop : LookFail → Stop
look_stop (ReadFault call) = ReadStop call
look_stop Oom = WantStop
