-- Mending: the words of a table in place of a rip's.
use Rattle.std.specs.Prelude.{◌≡◌, ◌≢◌, ℕ, ◌<◌, List, map, length, slice_index, bit_xor, ℤ, Contains, All}
use Rattle.std.specs.List.Sorted.{IsStrictlyIncreasing}
use Rattle.column_map.specs.Columns.{IsCovered, IsWordAt, WordTable, place, rip_word, stride}
use Rattle.column_map.specs.declared.candidate.Fix.{Fix}

-- the places of fixes
abbrev pub places : List Fix → List ℕ
places fixes = map (λ fix. fix.place) fixes

-- the fix is at a place where the rip at the offset d has another word than the table, and its flip is the exclusive or of the two
abbrev pub IsFix : ℕ → List ℕ → ℤ → WordTable → Fix → Type 0
IsFix c rip d table fix = (j : ℕ) × (k : ℕ) × IsWordAt c d fix.place j k × (rip_word rip d j k ≢ table j k) × (fix.flip ≡ bit_xor (rip_word rip d j k) (table j k))

-- The fixes of a rip at the offset d by a table, in columns of c words: one at each place where the two differ, by rising place.
pub record AreFixes (c : ℕ) (rip : List ℕ) (d : ℤ) (table : WordTable) (fixes : List Fix) : Type 0 where
  pub rising : IsStrictlyIncreasing (places fixes)
  pub each : All (IsFix c rip d table) fixes
  pub all : (j k : ℕ) → j < stride → k < c → rip_word rip d j k ≢ table j k → Contains (places fixes) (place d j k)

-- A rip at the offset d that was mended by a table: it has the table's words where columns have words, and the rip's elsewhere.
pub record IsMended (c : ℕ) (rip : List ℕ) (d : ℤ) (table : WordTable) (mended : List ℕ) : Type 0 where
  pub whole : length mended ≡ length rip
  pub covered : (j k : ℕ) → j < stride → k < c → rip_word mended d j k ≡ table j k
  pub others : (i : ℕ) → (IsCovered c d i → ⊥) → slice_index mended i ≡ slice_index rip i
