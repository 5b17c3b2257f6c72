-- The edges of an image: the words that leave and enter where the columns of a rip begin a stride earlier or later.
use Rattle.std.specs.Prelude.{◌≡◌, ℕ, ◌+◌, ◌-◌, ◌*◌, ◌<◌, ◌≤◌, List, length, slice_index}
use Rattle.column_map.specs.Columns.{IsSectorCount, per_column, stride}
use Rattle.column_map.specs.Image.{AreWords}
use Rattle.rip_basics.specs.Disc.{sector_words}

-- the sectors of the image, how many of its words have come, the words of its first two strides, and those of the two
-- strides whose numbers are the number of words of a column and the next
pub record KeptEdges : Type 0 where
  pub sectors : ℕ
  pub position : ℕ
  pub front : List ℕ
  pub back : List ℕ

-- Edges stand for a list y of words where all of them have come, and those of the strides 0, 1, c and c + 1 are kept,
-- where c is the number of words of a column.
pub record EdgesStandFor (kept : KeptEdges) (y : List ℕ) : Type 0 where
  pub words : AreWords y
  pub position : kept.position ≡ length y
  pub front : (i : ℕ) → i < 2 * stride → i < length y → slice_index kept.front i ≡ slice_index y i
  pub back : (i : ℕ) → i < 2 * stride → per_column kept.sectors * stride + i < length y → slice_index kept.back i ≡ slice_index y (per_column kept.sectors * stride + i)

-- ---- the code's own: functions inside the crate say it of their steps, and no public contract does

-- the fields of edges: the sectors of the image, how many words have come, and how many are kept of the front and of the back
pub record AreEdges (sectors position front back : ℕ) : Type 0 where
  pub size : IsSectorCount sectors
  pub room : position ≤ sector_words * sectors
  pub first : front ≡ 2 * stride
  pub last : back ≡ 2 * stride

-- Words that stand in the image from a place on are taken into what is kept of it, which stands there from the place first on:
-- where both have a word, the new one is kept. All other words stay.
pub record TakesPart (first position : ℕ) (words old new : List ℕ) : Type 0 where
  pub long : length new ≡ length old
  pub own : (i : ℕ) → i < length old → position ≤ first + i → first + i < position + length words → slice_index new i ≡ slice_index words (first + i - position)
  pub before : (i : ℕ) → first + i < position → slice_index new i ≡ slice_index old i
  pub after : (i : ℕ) → position + length words ≤ first + i → slice_index new i ≡ slice_index old i
