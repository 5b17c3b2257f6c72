-- Laws of slides: the row at each start, from the parity of a column a stride apart and the words of the edges.
use Rattle.std.proofs.Common.{◌≡◌, ℕ, ◌+◌, ◌*◌, ◌<◌, List, [], get_or, arith, sym, ap, ◌∙◌}
use Rattle.std.specs.Prelude.{Some, slice_get}
use Rattle.std.proofs.lemmas.Option.{get_or_from_slice_get}
use Rattle.column_map.specs.Columns.{IsSectorCount, per_column, stride}
use Rattle.syndrome_stream.specs.Parity.{parity_at}
use Rattle.syndrome_stream.proofs.ParityLaws.{get_or-image_parity}
use Rattle.offset_slide.specs.Edges.{KeptEdges}
use Rattle.offset_slide.specs.Slides.{TableAndEdgesStandFor}

-- a row of the table is the parity at its column's start
pub column_row : (count j a : ℕ) (rows : List (List ℕ)) (kept : KeptEdges) (y row : List ℕ) → TableAndEdgesStandFor count rows kept y → j < stride → slice_get rows j ≡ Some row
    → a ≡ stride + j → row ≡ parity_at count (per_column kept.sectors) y a
column_row count j a rows kept y row stand l here start =
    sym (get_or_from_slice_get rows j row [] here) ∙ ap (λ (table : List (List ℕ)). get_or table j []) stand.table
    ∙ get_or-image_parity count (per_column kept.sectors) y j [] l ∙ ap (parity_at count (per_column kept.sectors) y) (sym start)

-- the words of the edges are those of the image
pub front_word : (count i word : ℕ) (rows : List (List ℕ)) (kept : KeptEdges) (y : List ℕ) → TableAndEdgesStandFor count rows kept y → IsSectorCount kept.sectors → i < 2 * stride
    → word ≡ get_or kept.front i 0 → word ≡ get_or y i 0
front_word count i word rows kept y stand size l here = here ∙ stand.edges.front i l (omega (arith, stand.image.whole, size.0))

pub back_word : (count i word : ℕ) (rows : List (List ℕ)) (kept : KeptEdges) (y : List ℕ) → TableAndEdgesStandFor count rows kept y → IsSectorCount kept.sectors → i < 2 * stride
    → word ≡ get_or kept.back i 0 → word ≡ get_or y (i + per_column kept.sectors * stride) 0
back_word count i word rows kept y stand size l here =
    here ∙ stand.edges.back i l (omega (arith, stand.image.whole, size.0, size.1)) ∙ ap (λ k. get_or y k 0) (omega arith)
