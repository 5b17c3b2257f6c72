-- Slides: the parity of an image at every start, from the parity of its own columns and its edges.
use Rattle.std.specs.Prelude.{◌≡◌, ℕ, ◌-◌, List, [], slice_index_or}
use Rattle.column_map.specs.Columns.{per_column}
use Rattle.column_map.specs.Image.{IsImage}
use Rattle.syndrome_stream.specs.Parity.{image_parity}
use Rattle.offset_slide.specs.Edges.{KeptEdges, EdgesStandFor}

-- A table and edges stand for the same whole image y: the table is its parity, and all of its words came to the edges.
pub record TableAndEdgesStandFor (count : ℕ) (rows : List (List ℕ)) (kept : KeptEdges) (y : List ℕ) : Type 0 where
  pub image : IsImage kept.sectors y
  pub table : rows ≡ image_parity count (per_column kept.sectors) y
  pub edges : EdgesStandFor kept y

-- the sectors of the image, and the rows at the starts from 2 on
pub record KeptRows : Type 0 where
  pub sectors : ℕ
  pub rows : List (List ℕ)

-- the row that is kept for the start a
abbrev pub row_at_start : KeptRows → ℕ → List ℕ
row_at_start kept a = slice_index_or kept.rows (a - 2) []
