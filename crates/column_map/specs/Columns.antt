-- The columns of an image, and where a rip at an offset has their words.
use Rattle.std.specs.Prelude.{◌≡◌, ℕ, ◌+◌, ◌-◌, ◌*◌, ◌/◌, ◌%◌, ◌<◌, ◌≤◌, List, map, slice_index, suc, ℤ, pos, negsuc, ◌≤ℤ◌}
use Rattle.std.specs.List.{range_with_len}
use Rattle.rip_basics.specs.Disc.{most_sectors}

-- a stride: the words of 10 sectors, and the number of columns
abbrev pub stride : ℕ
stride = 11760

-- a disc that can be registered has from 30 sectors to as many as a disc may have
abbrev pub IsSectorCount : ℕ → Type 0
IsSectorCount s = (30 ≤ s) × (s ≤ most_sectors)

-- the number of words of each column: the strides of an image of s sectors, without the first and the last
abbrev pub per_column : ℕ → ℕ
per_column s = s / 10 - 2

-- An offset counts samples, and is positive where the rip is late.
pub record IsOffset (d : ℤ) : Type 0 where
  pub least : negsuc 5878 ≤ℤ d
  pub most : d ≤ℤ pos 5879

-- how many offsets that is
abbrev pub offsets : ℕ
offsets = 11759

-- the place i + 2 * d, at which a rip at the offset d has the registered word i
abbrev pub moved : ℤ → ℕ → ℕ
moved (pos d) i = i + 2 * d
moved (negsuc d) i = i - 2 * suc d

-- where a rip at the offset d has word k of column j
abbrev pub place : ℤ → ℕ → ℕ → ℕ
place d j k = moved d (stride + k * stride + j)

-- (j, k) are the column and the number of the word at this place, of columns of c words
pub record IsWordAt (c : ℕ) (d : ℤ) (at j k : ℕ) : Type 0 where
  pub column : j < stride
  pub number : k < c
  pub here : place d j k ≡ at

-- the place is that of a word of a column
abbrev pub IsCovered : ℕ → ℤ → ℕ → Type 0
IsCovered c d at = (j : ℕ) × (k : ℕ) × IsWordAt c d at j k

-- a word for each column j and each number k in it
abbrev pub WordTable : Type 0
WordTable = ℕ → ℕ → ℕ

-- the word that a rip at the offset d has as word k of column j
abbrev pub rip_word : List ℕ → ℤ → WordTable
rip_word rip d j k = slice_index rip (place d j k)

-- the word table that an image has: its covered words
abbrev pub table_of_image : List ℕ → WordTable
table_of_image image j k = slice_index image (stride + k * stride + j)

-- The words of a table, of columns of c words, in the order in which an image has them: word 0 of each column, then word 1 of each,
-- and so on.
abbrev pub table_words : ℕ → WordTable → List ℕ
table_words c table = map (λ i. table (i % stride) (i / stride)) (range_with_len 0 (c * stride))
