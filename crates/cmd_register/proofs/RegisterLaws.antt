-- The outcome of `register`.
use Rattle.std.proofs.Common.{◌≡◌, ◌∙◌, ℕ, List, [], ◌∷◌, Option, None, Some, IfSome, ap, ap₂}
use Rattle.std.specs.Prelude.{Ok}
use Rattle.rip_outside.specs.Files.{Files}
use Rattle.column_map.specs.Columns.{per_column, table_of_image}
use Rattle.syndrome_stream.specs.Parity.{image_parity}
use Rattle.disc_toc.specs.Toc.{Toc}
use Rattle.image_mender.specs.Joined.{joined_words}
use Rattle.image_mender.specs.Seal.{seal_of_table}
use Rattle.image_mender.specs.declared.image.Part.{Part}
use Rattle.parity_store.specs.Naming.{record_name_of}
use Rattle.parity_store.specs.Record.{record_bytes_of}
use Rattle.engine_words.specs.Records.{record_of}
use Rattle.rip_inputs.specs.Opening.{Opened}
use Rattle.engine_steps.specs.Steps.{free, measured}
use Rattle.engine_steps.specs.Outcome.{Outcome}
use Rattle.cmd_register.specs.RegisterOutcome.{IsRegisterOutcome, registered}

-- ---- the outcomes that write

pub register_meets : (input rec : List ℕ) (count : ℕ) (rip : Opened) (files : Files) (o : Outcome) → measured input files ≡ Ok rip → free (record_name_of rec rip.toc ∷ []) rip.names files ≡ Ok tt
    → o ≡ registered (record_name_of rec rip.toc) count rip → IsRegisterOutcome input rec count files o
register_meets input rec count rip files o found is_free is = rw (found, is_free) is

-- ---- the record that is made

pub record_made : (held : Option Files) (image : List Part) (toc : Toc) (count size shape : ℕ) (rows : List (List ℕ)) (seal bytes : List ℕ) → size ≡ count → shape ≡ toc.sectors
    → bytes ≡ record_bytes_of toc size rows (Some seal) → IfSome held (λ files. rows ≡ image_parity count (per_column shape) (joined_words image files))
    → IfSome held (λ files. seal ≡ seal_of_table (per_column shape) (table_of_image (joined_words image files))) → IfSome held (λ files. bytes ≡ record_of count toc (joined_words image files))
record_made None image toc count size shape rows seal bytes counted same is parity sealed = tt
record_made (Some files) image toc count size shape rows seal bytes counted same is parity sealed =
    is ∙ ap (λ n. record_bytes_of toc n rows (Some seal)) counted
    ∙ ap₂ (λ rows seal. record_bytes_of toc count rows (Some seal)) (parity ∙ ap (λ s. image_parity count (per_column s) (joined_words image files)) same)
    (sealed ∙ ap (λ s. seal_of_table (per_column s) (table_of_image (joined_words image files))) same)
