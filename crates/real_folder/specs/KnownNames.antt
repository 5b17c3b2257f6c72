-- What a run knows of the names that it was given.
use Rattle.std.specs.Prelude.{◌≡◌, ◌≢◌, ℕ, List, Option, None, Some, unwrap_or, Bool, true, false, ◌==◌, ◌&&◌}
use Rattle.std.specs.BTreeMap.{get_by_text}
use Rattle.real_folder.specs.declared.file_state.FileState.{FileState}
use Rattle.real_folder.specs.declared.known_names.Known.{Known}
use Rattle.real_folder.specs.declared.known_names.KnownNames.{KnownNames}
use Rattle.real_folder.specs.FileState.{IsSameFile, IsOwnFile}

abbrev pub nothing : Known
nothing = record { is_missing = false; first = None }

abbrev pub known_at : KnownNames → List ℕ → Known
known_at names name = unwrap_or (get_by_text names.names name) nothing

-- no file had the name when it was last asked for
abbrev pub IsMissing : List ℕ → KnownNames → Type 0
IsMissing name names = (known_at names name).is_missing ≡ true

-- the first reading under the name found this
abbrev pub first_read : KnownNames → List ℕ → Option FileState
first_read names name = (known_at names name).first

-- this is known of the name, and of every other what was known
pub record Learns (name : List ℕ) (known : Known) (old new : KnownNames) : Type 0 where
  pub this : known_at new name ≡ known
  pub others : (other : List ℕ) → other ≢ name → known_at new other ≡ known_at old other

-- what is known of each name stays
abbrev pub KnowsTheSame : KnownNames → KnownNames → Type 0
KnowsTheSame old new = (name : List ℕ) → known_at new name ≡ known_at old name

-- whether this file was found
abbrev pub is_found_by : Option FileState → FileState → Bool
is_found_by None file = false
is_found_by (Some state) file = (state.device == file.device) && (state.number == file.number)

-- whether this file was read
abbrev pub is_read_as : FileState → Known → Bool
is_read_as file known = is_found_by known.first file

-- under some name this file was read
abbrev pub WasRead : FileState → KnownNames → Type 0
WasRead file names = (name : List ℕ) × (state : FileState) × (first_read names name ≡ Some state) × IsSameFile state file

-- a plain file with one name that this run hasn't read
abbrev pub MayEmpty : FileState → KnownNames → Type 0
MayEmpty file names = IsOwnFile file × (WasRead file names → ⊥)
