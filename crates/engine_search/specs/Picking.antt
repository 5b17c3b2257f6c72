-- The offset at which a rip is taken to stand: the given one, or the only one of the range.
use Rattle.std.specs.List.Sorted.{IsStrictlyIncreasing}
use Rattle.std.specs.Prelude.{◌≡◌, ◌⊎◌, ◌++◌, ℕ, All, List, [], ◌∷◌, Result, Ok, Err, Option, None, Some, ℤ}
use Rattle.column_map.specs.Columns.{IsCovered, IsOffset, WordTable, per_column}
use Rattle.column_map.specs.Mending.{AreFixes, IsMended, places}
use Rattle.column_map.specs.declared.candidate.Candidate.{Candidate}
use Rattle.column_map.specs.declared.candidate.Fix.{Fix}
use Rattle.syndrome_stream.specs.Starts.{StartsStandFor}
use Rattle.offset_search.specs.Near.{IsNear}
use Rattle.offset_slide.specs.Slides.{KeptRows, row_at_start}
use Rattle.engine_steps.specs.Steps.{Known}
use Rattle.engine_search.specs.Agreement.{Agrees, AgreesBy, AreAgreeing, AreFirstAgreeing, IsAgreeing, IsFirstUnmended, IsNearRecord}
use Rattle.rip_report.specs.declared.status.Status.{Status}
use Rattle.rip_report.specs.declared.status.Status.TheVariants.{NoCandidate, Several, NotNear, SealDiffers}

-- The given offset is picked where the rip agrees with the record there. Otherwise the first column that no words fit is named; or, where
-- some fit every column, it is said that they don't have the record's seal.
-- With none given, the only offset of the range is picked at which it agrees; where there is none or more than one, that is said.
abbrev pub Picks : Option ℤ → Known → Result Candidate Status → Type 0
Picks (Some d) known (Ok at) = (at.offset ≡ d) × IsAgreeing known at
Picks (Some d) known (Err (NotNear column)) = IsFirstUnmended known d column
Picks (Some d) known (Err SealDiffers) = IsNearRecord known d × (Agrees known d → ⊥)
Picks None known (Ok at) = AreAgreeing known (at ∷ [])
Picks None known (Err NoCandidate) = AreAgreeing known []
Picks None known (Err (Several first second)) =
    (a : Candidate) × (b : Candidate) × AreFirstAgreeing 2 known (a ∷ (b ∷ [])) × (a.offset ≡ first) × (b.offset ≡ second)
Picks given known picked = ⊥

-- the same of a rip and a record that were compared, where they could be
abbrev pub PicksCompared : Result (Known × List (List ℕ)) Status → Option ℤ → Candidate → Type 0
PicksCompared (Ok both) given at = Picks given both.0 (Ok at)
PicksCompared (Err status) given at = ⊥

-- ---- the offset that is mended

-- the offset is the given one; with none given, the rip agrees with the record at no other of the range
abbrev pub IsChosen : Option ℤ → Known → ℤ → Type 0
IsChosen (Some given) known d = d ≡ given
IsChosen None known d = (other : ℤ) → IsOffset other → Agrees known other → other ≡ d

-- The offset at which a rip is mended: the given one, where the rip agrees with the record there; with none given, the only one of
-- the range at which it does.
abbrev pub IsOffsetToMend : Option ℤ → Known → ℤ → Type 0
IsOffsetToMend offset known d = IsOffset d × Agrees known d × IsChosen offset known d

-- ---- what is mended

-- the fixes that mend the rip at an offset, by a table by which it agrees there
abbrev pub Mends : Known → Candidate → List Fix → Type 0
Mends known at fixes = (table : WordTable) × AgreesBy known at.offset table × AreFixes (per_column known.sectors) known.words at.offset table fixes

-- the rip's words, mended at an offset by a table by which it agrees there
abbrev pub AreMended : Known → ℤ → List ℕ → Type 0
AreMended known d mended = (table : WordTable) × AgreesBy known d table × IsMended (per_column known.sectors) known.words d table mended

-- fixes at an offset of the range stand at places of columns, of c words each, and rise
pub record LieInColumns (c : ℕ) (d : ℤ) (fixes : List Fix) : Type 0 where
  pub offset : IsOffset d
  pub rising : IsStrictlyIncreasing (places fixes)
  pub covered : All (λ place. IsCovered c d place) (places fixes)

-- ---- the state of a search

-- slides stand for an image
abbrev pub StandFor : ℕ → KeptRows → List ℕ → Type 0
StandFor count slides y = StartsStandFor count slides.sectors (row_at_start slides) y

-- an offset of the range at which a rip with these words is near the stored parity
abbrev pub IsNearAt : ℕ → ℕ → List ℕ → List (List ℕ) → Candidate → Type 0
IsNearAt count c rip stored at = IsOffset at.offset × IsNear count c rip at.offset stored

-- a look at a near offset puts it to those that were found where the rip agrees with the record there, and else leaves them
abbrev pub LooksAgreeing : Known → Candidate → List Candidate → List Candidate → Type 0
LooksAgreeing known at old new = (Agrees known at.offset × (new ≡ old ++ at ∷ [])) ⊎ ((Agrees known at.offset → ⊥) × (new ≡ old))

-- the bytes that are taken to compare a seal, if there is one
abbrev pub seal_cost : Option (List ℕ) → ℕ → ℕ
seal_cost None each = 0
seal_cost (Some seal) each = each
