-- What is held after a merge: the records of both stores, and nothing else.
use Rattle.std.specs.Prelude.{◌≡◌, ◌≢◌, List, ℕ, Contains, None, true}
use Rattle.std.specs.FinMap.{get}
use Rattle.rip_outside.specs.Files.{Files, IsHeld}
use Rattle.rip_outside.specs.Outputs.{part_of}
use Rattle.store_upkeep.specs.Entries.{entries_in, entry_state}
use Rattle.store_upkeep.specs.Looking.{is_good}
use Rattle.cmd_merge.specs.MergeOutcome.{target}

-- a good record of FROM whose name no file has in TO
pub record IsNewRecord (from to : List ℕ) (files : Files) (name : List ℕ) : Type 0 where
  pub entry : Contains (entries_in from files) name
  pub good : is_good (entry_state from files name) ≡ true
  pub free : get files (target from to name) ≡ None

-- not the name under which a new record is made before it gets its own
abbrev pub IsNoNewPart : List ℕ → List ℕ → Files → List ℕ → Type 0
IsNoNewPart from to files name = (entry : List ℕ) → IsNewRecord from to files entry → name ≢ part_of (target from to entry)

-- All that was held is held as before, and besides exactly the new records, each with the bytes that it has in FROM.
pub record HoldsBoth (from to : List ℕ) (files now : Files) : Type 0 where
  pub kept : (name : List ℕ) → IsNoNewPart from to files name → IsHeld name files → get now name ≡ get files name
  pub added : (name : List ℕ) → IsNewRecord from to files name → get now (target from to name) ≡ get files name
  pub nothing_else : (name : List ℕ) → IsNoNewPart from to files name → get files name ≡ None → ((entry : List ℕ) → IsNewRecord from to files entry → name ≢ target from to entry) → get now name ≡ None
