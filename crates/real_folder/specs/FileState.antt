-- When two looks at files found one file, and one that is as it was.
use Rattle.std.specs.Prelude.{◌≡◌, IsTrue}
use Rattle.real_folder.specs.declared.file_state.FileState.{FileState}

abbrev pub IsSameFile : FileState → FileState → Type 0
IsSameFile one other = (one.device ≡ other.device) × (one.number ≡ other.number)

-- the same file, of the same length, whose bytes were last changed at the same time
abbrev pub IsAsItWas : FileState → FileState → Type 0
IsAsItWas first later =
    IsSameFile first later × (first.length ≡ later.length) × (first.seconds ≡ later.seconds) × (first.nanoseconds ≡ later.nanoseconds)

-- a plain file that has one name
abbrev pub IsOwnFile : FileState → Type 0
IsOwnFile file = IsTrue file.is_plain × (file.links ≡ 1)
