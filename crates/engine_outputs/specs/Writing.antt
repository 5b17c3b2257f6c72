-- Several files that are written, one after another.
use Rattle.std.specs.Prelude.{ℕ, List, Result, None, map, is_some}
use Rattle.std.specs.List.{find}
use Rattle.std.specs.FinMap.{get}
use Rattle.rip_outside.specs.Files.{Files}
use Rattle.image_mender.specs.Joined.{joined_words}
use Rattle.image_mender.specs.declared.image.Part.{Part}
use Rattle.rip_outside.specs.Outputs.{Output}
use Rattle.rip_report.specs.declared.status.Status.{Status}
use Rattle.track_split.specs.Tracks.{files_named}
use Rattle.engine_steps.specs.Steps.{first_taken, part_read}
use Rattle.engine_steps.specs.declared.steps.Stop.{Stop}
use Rattle.engine_steps.specs.declared.steps.Stop.TheVariants.{Refused}

-- none of these names is held
abbrev pub none_held : List (List ℕ) → Files → Result (Unit {0}) Status
none_held outs files = first_taken (find (λ out. is_some (get files out)) outs) None

-- none of these names' parts is one of the names that the run reads
abbrev pub none_read : List (List ℕ) → List (List ℕ) → Result (Unit {0}) Status
none_read outs read = first_taken None (part_read outs read)

-- the words of images
abbrev pub words_of_images : List (List Part) → Files → List (List ℕ)
words_of_images images files = map (λ parts. joined_words parts files) images

-- the files that are written of these images and this sheet, under these names
abbrev pub image_outputs : List (List ℕ) → List (List Part) → List ℕ → Files → List Output
image_outputs outs images sheet files = files_named outs (words_of_images images files) sheet

-- a call that writes a file refuses nothing
abbrev pub RefusesNothing : Stop → Type 0
RefusesNothing (Refused status) = ⊥
RefusesNothing stop = Unit {0}
