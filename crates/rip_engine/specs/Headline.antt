-- What `repair` writes, and that a damaged rip of a registered disc is found.
use Rattle.std.specs.Prelude.{◌≡◌, ◌≢◌, ◌⊎◌, ℕ, ◌+◌, ◌*◌, ◌/◌, ◌<◌, ◌≤◌, List, [], ◌∷◌, slice_range, Result, Ok, Option, None, Some, IfSome, ℤ}
use Rattle.std.specs.FinMap.{get}
use Rattle.rip_outside.specs.Files.{Files}
use Rattle.rip_outside.specs.Outputs.{part_of}
use Rattle.rip_outside.specs.Causes.{Rose}
use Rattle.rip_commands.specs.Ran.{NoneRose}
use Rattle.rip_commands.specs.Seen.{Seen, look_of}
use Rattle.column_map.specs.Columns.{IsOffset, WordTable, per_column, place, rip_word, stride, table_of_image}
use Rattle.column_map.specs.Image.{IsImage}
use Rattle.column_map.specs.Mending.{IsMended}
use Rattle.image_mender.specs.Seal.{seal_of_words}
use Rattle.column_map.specs.declared.candidate.Candidate.{Candidate}
use Rattle.syndrome_stream.specs.Parity.{image_parity}
use Rattle.wav_frames.specs.Wav.{wav_bytes}
use Rattle.offset_search.specs.Near.{HasOffset, apart, damaged_columns, error_count}
use Rattle.engine_search.specs.Agreement.{Agrees, AgreesBy, AreAgreeing, HasSeal}
use Rattle.engine_search.specs.Picking.{IsChosen, IsOffsetToMend}
use Rattle.engine_steps.specs.Steps.{Known, compared, free}
use Rattle.rip_report.specs.Texts.{offsets_text, written_text}
use Rattle.rip_words.specs.declared.Command.{Command}
use Rattle.rip_words.specs.declared.Command.TheVariants.{Offsets, Repair}
use Rattle.rip_report.specs.declared.status.Status.{Status}
use Rattle.rip_report.specs.declared.status.Status.TheVariants.{Done, WantOfMemory}
use Rattle.rip_commands.specs.Printing.{Wrote}

-- ---- what `repair` writes

-- no call failed
abbrev pub NoneFailed : Seen → Seen → Type 0
NoneFailed before after = NoneRose (look_of before) (look_of after) × (Rose before.sink_faults after.sink_faults → ⊥)

-- What `repair` leaves when it is done: the rip agrees with the record at the offset d by a table of words, and that is the only one; the
-- output holds the header and the rip's words, where columns have words the table's; these have the record's seal, if it has one; the
-- part isn't held; all other names are as before; and the text has the counts of the words that differ.
pub record Repaired (to : List ℕ) (known : Known) (files now : Files) (text : List ℕ) (d : ℤ) : Type 0 where
  pub table : WordTable
  pub agrees : AgreesBy known d table
  pub only : (other : WordTable) → AgreesBy known d other → (j k : ℕ) → j < stride → k < per_column known.sectors → other j k ≡ table j k
  pub image : List ℕ
  pub mended : IsMended (per_column known.sectors) known.words d table image
  pub holds : get now to ≡ Some (wav_bytes image)
  pub sealed : IfSome known.seal (λ seal. seal_of_words (slice_range image (place d 0 0) (place d 0 0 + per_column known.sectors * stride)) ≡ seal)
  pub part_gone : get now (part_of to) ≡ None
  pub others : (name : List ℕ) → name ≢ to → name ≢ part_of to → get now name ≡ get files name
  pub prints : text ≡ written_text record { offset = d; errors = error_count (per_column known.sectors) known.words d table; columns = damaged_columns (per_column known.sectors) known.words d table } to

-- `repair` writes an image exactly where one single offset of the range, or the given one, has a table of words with the stored parity,
-- and the stored seal if any, that differs from the shifted rip within the radius in every column; that table is the only one, its words
-- are written, and all uncovered words are the rip's. It is so for every rip and every record of one layout, where the output's name is
-- free.
-- Three quarters of the definitions that this rests on serve its premise `compared` alone: what a rip and a record are read as.
abbrev pub RepairIsExact : Result Command ℕ → Seen → Seen → Status → Type 0
RepairIsExact read before after status = (input rec to : List ℕ) (offset : Option ℤ) (known : Known) (names : List (List ℕ)) → read ≡ Ok (Repair input rec to offset) →
    IfSome before.held (λ files. compared input rec files ≡ Ok (known, names) → free (to ∷ []) names files ≡ Ok tt →
    (status ≡ Done → (now : Files) × (text : List ℕ) × (after.held ≡ Some now) × Wrote text before.told after.told × ((d : ℤ) × IsOffsetToMend offset known d × Repaired to known files now text d))
    × (NoneFailed before after → (d : ℤ) → IsOffsetToMend offset known d → (status ≡ Done) ⊎ (status ≡ WantOfMemory)))

-- A damaged rip of a registered disc: the stored parity is that of an image, and so is the stored seal, if any; and the rip at the offset
-- d differs from the image's covered words in no column in more words than the radius.
pub record IsDamagedRip (known : Known) (image : List ℕ) (d : ℤ) : Type 0 where
  pub registered : IsImage known.sectors image
  pub parity : known.stored ≡ image_parity known.count (per_column known.sectors) image
  pub sealed : HasSeal known.seal (per_column known.sectors) (table_of_image image)
  pub offset : IsOffset d
  pub close : (j : ℕ) → j < stride → apart (per_column known.sectors) (table_of_image image j) (rip_word known.words d j) ≤ known.count / 2

-- The offset of a damaged rip of a registered disc is a candidate. `offsets` prints it among the others; and where it is the given one
-- or stands alone, `repair` mends the rip, and the words that it writes where columns have words are the registered ones.
abbrev pub DamagedDiscIsFound : Result Command ℕ → Seen → Seen → Status → Type 0
DamagedDiscIsFound read before after status = (input rec : List ℕ) (known : Known) (names : List (List ℕ)) (image : List ℕ) (d : ℤ) → IsDamagedRip known image d →
    IfSome before.held (λ files. compared input rec files ≡ Ok (known, names) →
    Agrees known d
    × (read ≡ Ok (Offsets input rec) → NoneFailed before after →
    (status ≡ WantOfMemory) ⊎ ((status ≡ Done) × ((found : List Candidate) × AreAgreeing known found × HasOffset found d × Wrote (offsets_text found) before.told after.told)))
    × ((to : List ℕ) (offset : Option ℤ) → read ≡ Ok (Repair input rec to offset) → free (to ∷ []) names files ≡ Ok tt → IsChosen offset known d →
    (NoneFailed before after → (status ≡ Done) ⊎ (status ≡ WantOfMemory))
    × (status ≡ Done → (now : Files) × (written : List ℕ) × (after.held ≡ Some now) × (get now to ≡ Some (wav_bytes written))
    × ((j k : ℕ) → j < stride → k < per_column known.sectors → rip_word written d j k ≡ table_of_image image j k))))
