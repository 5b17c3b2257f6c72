-- Laws of the places of columns' words.
use Rattle.std.proofs.Common.{◌≡◌, ℕ, ◌+◌, ◌*◌, ◌<◌, ◌≤◌, ℤ, pos, negsuc, ◌+ℤ◌, ◌*ℤ◌, arith, sym, ◌∙◌}
use Rattle.std.proofs.lemmas.Int.{ints}
use Rattle.column_map.specs.Columns.{stride, IsOffset, moved, place}

-- no word that an offset moves falls out at the front
pub moved-is : (d : ℤ) (i : ℕ) → IsOffset d → stride ≤ i → pos (moved d i) ≡ pos i +ℤ pos 2 *ℤ d
moved-is (pos d) i h l = omega (arith, ints)
moved-is (negsuc d) i h l = omega (arith, ints, h.least)

-- the place of a word, from that of the first word of the first column
pub place-from_first : (d : ℤ) (j k : ℕ) → IsOffset d → place d j k ≡ place d 0 0 + k * stride + j
place-from_first (pos d) j k h = omega arith
place-from_first (negsuc d) j k h = omega (arith, ints, h.least)

-- a place has at most one column and one number
pub place_one_to_one : (d : ℤ) (i j k l : ℕ) → IsOffset d → i < stride → j < stride → place d i k ≡ place d j l → (i ≡ j) × (k ≡ l)
place_one_to_one d i j k l h i_low j_low same =
    let e : place d 0 0 + k * stride + i ≡ place d 0 0 + l * stride + j = sym (place-from_first d i k h) ∙ same ∙ place-from_first d j l h in
    (omega arith, omega arith)
