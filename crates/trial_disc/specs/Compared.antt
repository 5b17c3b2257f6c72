-- Whether a mended rip has a disc's words.
use Rattle.std.specs.Prelude.{◌≡◌, ℕ, ◌+◌, ◌*◌, ◌<◌, List, slice_index, ℤ}
use Rattle.column_map.specs.Columns.{rip_word, stride}

-- where columns of c words have their words, a rip at the offset d has the disc's
abbrev pub SameCovered : ℕ → ℤ → List ℕ → List ℕ → Type 0
SameCovered c d mended disc = (j k : ℕ) → j < stride → k < c → rip_word mended d j k ≡ slice_index disc (stride + k * stride + j)
