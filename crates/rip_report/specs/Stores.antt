-- The lines of stores.
use Rattle.std.specs.Prelude.{ℕ, List, ◌++◌, codes}
use Rattle.std.specs.Fmt.{decimal}
use Rattle.parity_store.specs.declared.reading.RecordKind.{RecordKind}
use Rattle.rip_report.specs.declared.status.Status.TheVariants.{RecordRefused}
use Rattle.rip_report.specs.Texts.{line, refusal_line}

-- what a record is: its version, and its parity words of a column
abbrev pub version_text : List ℕ → ℕ → ℕ → List ℕ
version_text name version npar = name ++ codes " version " ++ decimal version ++ codes " npar " ++ decimal npar

-- what its disc is: the sectors and the tracks
abbrev pub size_text : ℕ → ℕ → List ℕ
size_text sectors tracks = line (codes " sectors " ++ decimal sectors ++ codes " tracks " ++ decimal tracks)

-- a good record, and its disc
abbrev pub stored_line : List ℕ → ℕ → ℕ → ℕ → ℕ → List ℕ
stored_line name version npar sectors tracks = version_text name version npar ++ size_text sectors tracks

-- a file that is no record, with the line by which it is refused
abbrev pub bad_line : List ℕ → RecordKind → List ℕ
bad_line name kind = name ++ codes " " ++ refusal_line (RecordRefused kind)

-- a record whose name isn't its key's
abbrev pub misnamed_line : List ℕ → List ℕ → List ℕ
misnamed_line name key = line (name ++ codes " misnamed " ++ key)

-- how many entries were looked at, and how many of them are bad
abbrev pub checked_line : ℕ → ℕ → List ℕ
checked_line entries bad = line (codes "checked " ++ decimal entries ++ codes " bad " ++ decimal bad)

-- what becomes of an entry, in a word, and its name
abbrev pub fate_line : List ℕ → List ℕ → List ℕ
fate_line word name = line (word ++ codes " " ++ name)

-- how many entries were added, are there already, are there otherwise, and were skipped
abbrev pub merged_line : ℕ → ℕ → ℕ → ℕ → List ℕ
merged_line added same differs skipped =
    line (codes "merged " ++ decimal added ++ codes " same " ++ decimal same ++ codes " differs " ++ decimal differs ++ codes " skipped " ++ decimal skipped)
