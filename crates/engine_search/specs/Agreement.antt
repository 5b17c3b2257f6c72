-- A rip agrees with a record at an offset: all that the commands say of offsets rests on these words.
use Rattle.std.specs.Prelude.{◌≡◌, ◌⊎◌, ℕ, ◌+◌, ◌*◌, ◌≤◌, List, length, Option, None, Some, IfSome, Result, Ok, Err, ℤ, ◌<ℤ◌, All}
use Rattle.column_map.specs.Columns.{IsOffset, WordTable, per_column}
use Rattle.column_map.specs.declared.candidate.Candidate.{Candidate}
use Rattle.image_mender.specs.Seal.{seal_of_table}
use Rattle.offset_search.specs.Near.{AreCandidates, AreRising, Fits, HasOffset, IsFirstUnfit, IsNear, damaged_columns, error_count}
use Rattle.engine_steps.specs.Steps.{Known, Takes}
use Rattle.engine_steps.specs.declared.steps.Stop.{Stop}
use Rattle.rip_report.specs.declared.status.Status.{Status}

-- ---- one offset

-- the words of a table, of columns of c words, have the seal, if there is one
abbrev pub HasSeal : Option (List ℕ) → ℕ → WordTable → Type 0
HasSeal seal c table = IfSome seal (λ sealed. seal_of_table c table ≡ sealed)

-- the rip agrees with the record at the offset d by this table of words: it fits there, and its words have the record's seal, if any
pub record AgreesBy (known : Known) (d : ℤ) (table : WordTable) : Type 0 where
  pub fits : Fits known.count (per_column known.sectors) known.words d known.stored table
  pub sealed : HasSeal known.seal (per_column known.sectors) table

-- the rip agrees with the record at the offset d, by some table of words
abbrev pub Agrees : Known → ℤ → Type 0
Agrees known d = (table : WordTable) × AgreesBy known d table

-- the rip is near the record at the offset d: some table of words fits, whatever its seal is
abbrev pub IsNearRecord : Known → ℤ → Type 0
IsNearRecord known d = IsNear known.count (per_column known.sectors) known.words d known.stored

-- column j is the first that no words fit at the offset d
abbrev pub IsFirstUnmended : Known → ℤ → ℕ → Type 0
IsFirstUnmended known d j = IsFirstUnfit known.count (per_column known.sectors) known.words d known.stored j

-- ---- the offsets of the range

-- an offset of the range at which the rip agrees with the record, with the counts of the words that differ
pub record IsAgreeing (known : Known) (at : Candidate) : Type 0 where
  pub offset : IsOffset at.offset
  pub table : WordTable
  pub agrees : AgreesBy known at.offset table
  pub errors : at.errors ≡ error_count (per_column known.sectors) known.words at.offset table
  pub columns : at.columns ≡ damaged_columns (per_column known.sectors) known.words at.offset table

-- all of these, by rising offset
pub record AreAgreeing (known : Known) (found : List Candidate) : Type 0 where
  pub rising : AreRising found
  pub each : All (IsAgreeing known) found
  pub all : (d : ℤ) → IsOffset d → Agrees known d → HasOffset found d

-- the first of these, at most `limit`: every other one is above them, and only where there are `limit` of them
pub record AreFirstAgreeing (limit : ℕ) (known : Known) (found : List Candidate) : Type 0 where
  pub few : length found ≤ limit
  pub rising : AreRising found
  pub each : All (IsAgreeing known) found
  pub all : (d : ℤ) → IsOffset d → Agrees known d
      → HasOffset found d ⊎ ((length found ≡ limit) × All (λ at. at.offset <ℤ d) found)

-- ---- the bytes that are taken for seals

-- all offsets of the range at which the rip is near the record, with their counts
abbrev pub AreAllNear : Known → List Candidate → Type 0
AreAllNear known near = AreCandidates known.count (per_column known.sectors) known.words known.stored near

-- So often the rip may be read for a seal: never where the record has none, once for a given offset, and else as often as there are near
-- offsets in the range.
abbrev pub ReadsForSeal : Option (List ℕ) → Option ℤ → Known → ℕ → Type 0
ReadsForSeal None given known times = times ≡ 0
ReadsForSeal (Some seal) (Some d) known times = times ≡ 1
ReadsForSeal (Some seal) None known times = (near : List Candidate) × AreAllNear known near × (times ≡ length near)

-- the same of a rip and a record that were compared, where they could be
abbrev pub ReadsCompared : Result (Known × List (List ℕ)) Status → Option ℤ → ℕ → Type 0
ReadsCompared (Ok both) given times = ReadsForSeal both.0.seal given both.0 times
ReadsCompared (Err status) given times = times ≡ 0

-- unless a call that reads failed, at most `fixed` times so many bytes are taken, and as many again for each reading for a seal
abbrev pub TakesSealing : {T : Type 0} → Option ℤ → Known → ℕ → ℕ → Result T Stop → ℕ → ℕ → Type 0
TakesSealing given known fixed each result before now =
    (times : ℕ) → ReadsForSeal known.seal given known times → Takes ((fixed + times) * each) result before now

-- the same of a command on a rip and a record
abbrev pub TakesCompared : {T : Type 0} → Result (Known × List (List ℕ)) Status → Option ℤ → ℕ → ℕ → Result T Stop → ℕ → ℕ → Type 0
TakesCompared step given fixed each result before now =
    (times : ℕ) → ReadsCompared step given times → Takes ((fixed + times) * each) result before now
