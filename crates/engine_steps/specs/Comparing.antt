-- What is known of a rip and a record that were compared.
use Rattle.std.specs.Prelude.{ℕ, List, [], ◌∷◌, ◌++◌, Result, Ok, Err, Option, None, Some}
use Rattle.rip_outside.specs.Files.{Files}
use Rattle.image_mender.specs.Joined.{joined_words}
use Rattle.parity_store.specs.Record.{parity_count, parity_rows}
use Rattle.engine_steps.specs.Steps.{Known, known_from, measured}
use Rattle.engine_steps.specs.declared.comparing.Compared.{Compared}
use Rattle.std.specs.Option.{option_to_list}
use Rattle.parity_store.specs.Naming.{record_name_of}
use Rattle.rip_inputs.specs.Opening.{Opened, names_read}
use Rattle.rip_report.specs.declared.status.Status.{Status}

abbrev pub known_of : Files → Compared → Known
known_of files found = known_from found.shape (joined_words found.image files) (parity_count found.parity) (parity_rows found.parity) found.seal

-- and the names that were read
abbrev pub names_of : Compared → List (List ℕ)
names_of found = found.names ++ found.rec ∷ []

abbrev pub both_of : Files → Compared → Known × List (List ℕ)
both_of files found = (known_of files found, names_of found)

-- ---- the names that a command reads

-- the record's name, once the rip's layout is known
abbrev pub record_under : List ℕ → Result Opened Status → Option (List ℕ)
record_under rec (Ok rip) = Some (record_name_of rec rip.toc)
record_under rec (Err status) = None

-- the names of a rip's files and its record's, as far as they are read
abbrev pub compared_names : List ℕ → List ℕ → Files → List (List ℕ)
compared_names input rec files = names_read input files ++ option_to_list (record_under rec (measured input files))
