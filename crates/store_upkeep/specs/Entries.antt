-- The entries of a store: the records that stand in a folder.
use Rattle.std.specs.Prelude.{ℕ, nat_eq, Bool, List, codes, filter, Result, Ok, Err, if◌then◌else◌}
use Rattle.std.specs.List.{ends_with}
use Rattle.std.specs.Str.{bytes_eq}
use Rattle.rip_outside.specs.Files.{Files, bytes_at}
use Rattle.rip_outside.specs.Listing.{names_in}
use Rattle.disc_ids.specs.Digest.{id_of}
use Rattle.disc_ids.specs.Texts.{store_key_text}
use Rattle.parity_store.specs.Naming.{stored_name}
use Rattle.parity_store.specs.Reading.{Stored, record_reading}
use Rattle.parity_store.specs.declared.reading.RecordKind.{RecordKind}

-- an entry's name ends in ".rpar"
abbrev pub is_entry : List ℕ → Bool
is_entry name = ends_with nat_eq name (codes ".rpar")

-- the entries of a folder, in the order of their bytes
abbrev pub entries_in : List ℕ → Files → List (List ℕ)
entries_in folder files = filter is_entry (names_in folder files)

-- What an entry is: a record under the name of its key, a file that is no record, or a record of another key.
pub data EntryState : Type 0 where
  Good : Stored → EntryState
  Bad : RecordKind → EntryState
  Misnamed : List ℕ → EntryState

-- the key of a record's disc
abbrev pub key_of : Stored → List ℕ
key_of stored = id_of (store_key_text stored.toc)

abbrev pub state_of_record : List ℕ → List ℕ → Stored → EntryState
state_of_record folder name stored = if bytes_eq name (stored_name folder (key_of stored)) then Good stored else Misnamed (key_of stored)

abbrev pub state_of_reading : List ℕ → List ℕ → Result Stored RecordKind → EntryState
state_of_reading folder name (Ok stored) = state_of_record folder name stored
state_of_reading folder name (Err kind) = Bad kind

-- what the entry of this name and these bytes is
unfoldable pub state_of_bytes : List ℕ → List ℕ → List ℕ → EntryState
state_of_bytes folder name bytes = state_of_reading folder name (record_reading bytes)

-- what the entry of this name is
abbrev pub entry_state : List ℕ → Files → List ℕ → EntryState
entry_state folder files name = state_of_bytes folder name (bytes_at name files)
