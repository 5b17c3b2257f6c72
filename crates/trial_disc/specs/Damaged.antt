-- Rips that are made of a disc's words.
use Rattle.std.specs.Prelude.{ℕ, zero, suc, ◌+◌, ◌*◌, ◌/◌, ◌%◌, List, length, map, slice_index, slice_set, bit_xor, ℤ, pos, negsuc, ◌-ℤ◌, ◌*ℤ◌}
use Rattle.std.specs.List.{range_with_len}
use Rattle.column_map.specs.Columns.{place, stride}

-- the word at this place, or 0 where there is none
abbrev pub word_at : List ℕ → ℤ → ℕ
word_at words (pos i) = slice_index words i
word_at words (negsuc i) = 0

-- A rip that is so many samples late has as word i the disc's word i - 2 * shift.
abbrev pub late_word : List ℕ → ℤ → ℕ → ℕ
late_word disc shift i = word_at disc (pos i -ℤ pos 2 *ℤ shift)

-- all words of a late rip: as many as the disc has
abbrev pub late : List ℕ → ℤ → List ℕ
late disc shift = map (late_word disc shift) (range_with_len 0 (length disc))

-- the column that hit h strikes
abbrev pub hit_column : ℕ → ℕ
hit_column h = (h * 4099) % stride

-- the number of the word that it strikes there, in columns of c words
abbrev pub hit_number : ℕ → ℕ → ℕ
hit_number c h = (h % stride + h / stride) % c

-- the list with one word exclusive-ored
abbrev pub flipped : List ℕ → ℕ → ℕ → List ℕ
flipped words at flip = slice_set words at (bit_xor (slice_index words at) flip)

-- a rip, shift samples late, after the hits 0 to n - 1: in another order they would leave the same words
abbrev pub damaged : ℕ → ℤ → ℕ → List ℕ → List ℕ
damaged c shift zero rip = rip
damaged c shift (suc h) rip = flipped (damaged c shift h rip) (place shift (hit_column h) (hit_number c h)) (h % 65535 + 1)
