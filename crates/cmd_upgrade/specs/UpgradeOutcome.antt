-- What `upgrade` comes to.
use Rattle.std.specs.Prelude.{◌≡◌, ◌==◌, ℕ, List, [], ◌∷◌, Result, Ok, Err, Option, None, Some, if◌then◌else◌}
use Rattle.rip_outside.specs.Files.{Files}
use Rattle.column_map.specs.Columns.{WordTable, per_column}
use Rattle.column_map.specs.declared.candidate.Candidate.{Candidate}
use Rattle.disc_toc.specs.Toc.{Toc}
use Rattle.image_mender.specs.Seal.{seal_of_table}
use Rattle.parity_store.specs.Naming.{record_name_of}
use Rattle.parity_store.specs.Record.{record_bytes_of}
use Rattle.rip_report.specs.Texts.{upgraded_text}
use Rattle.rip_report.specs.declared.status.Status.{Status}
use Rattle.rip_report.specs.declared.status.Status.TheVariants.{Mendable, Sealed}
use Rattle.engine_steps.specs.Outcome.{Outcome, Then, ThenOf, output, refused, written}
use Rattle.engine_steps.specs.Steps.{Known, and_then, compared, first_taken, measured, part_read}
use Rattle.engine_search.specs.Agreement.{AgreesBy}
use Rattle.engine_search.specs.Picking.{Picks}

-- a record that has a seal keeps it
abbrev pub unsealed : List ℕ → Option (List ℕ) → Result (Unit {0}) Status
unsealed name None = Ok tt
unsealed name (Some seal) = Err (Sealed name)

-- the name under which the record is made anew isn't one that the run reads
abbrev pub part_unread : List ℕ → List (List ℕ) → Result (Unit {0}) Status
part_unread name read = first_taken None (part_read (name ∷ []) read)

-- a record may get a seal where it has none and its new bytes overwrite nothing that is read
abbrev pub upgradable : List ℕ → Option (List ℕ) → List (List ℕ) → Result (Unit {0}) Status
upgradable name seal read = and_then (unsealed name seal) (λ _. part_unread name read)

-- a rip with wrong words is refused, and else the record of this layout is written anew, with the same parity and this seal
abbrev pub upgraded : List ℕ → Toc → Known → Candidate → List ℕ → Outcome
upgraded name toc known at seal =
    if at.errors == 0 then written (upgraded_text at name) (output name (record_bytes_of toc known.count known.stored (Some seal)) ∷ [])
    else refused (Mendable at.offset at.errors at.columns)

-- the seal is that of the table that fits
abbrev pub IsSealedOutcome : List ℕ → Toc → Known → Candidate → Outcome → Type 0
IsSealedOutcome name toc known at outcome =
    (table : WordTable) × AgreesBy known at.offset table × (outcome ≡ upgraded name toc known at (seal_of_table (per_column known.sectors) table))

-- what comes of a rip and a record that were compared: the record's name, the layout, and what is known
abbrev pub IsUpgradeOf : List ℕ → Toc → Known × List (List ℕ) → Outcome → Type 0
IsUpgradeOf name toc found =
    Then (upgradable name found.0.seal found.1) (λ _.
    ThenOf (Picks None found.0) (λ at.
    IsSealedOutcome name toc found.0 at))

-- `upgrade INPUT REC` gives the record REC, which has no seal, the seal of the rip INPUT, which agrees with it at one offset alone and has
-- no wrong word there.
abbrev pub IsUpgradeOutcome : List ℕ → List ℕ → Files → Outcome → Type 0
IsUpgradeOutcome input rec files =
    Then (measured input files) (λ rip.
    Then (compared input rec files) (λ found.
    IsUpgradeOf (record_name_of rec rip.toc) rip.toc found))
