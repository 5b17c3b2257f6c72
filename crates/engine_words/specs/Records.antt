-- The record of a rip.
use Rattle.std.specs.Prelude.{ℕ, ◌*◌, List, take, drop, Some}
use Rattle.column_map.specs.Columns.{per_column, stride, table_of_image}
use Rattle.syndrome_stream.specs.Parity.{image_parity}
use Rattle.disc_toc.specs.Toc.{Toc}
use Rattle.image_mender.specs.Seal.{seal_of_table}
use Rattle.parity_store.specs.Record.{record_bytes_of}

-- the record of a rip with this layout and these words: the parity of its columns, `count` words for each, and the seal of their words
abbrev pub record_of : ℕ → Toc → List ℕ → List ℕ
record_of count toc words =
    record_bytes_of toc count (image_parity count (per_column toc.sectors) words) (Some (seal_of_table (per_column toc.sectors) (table_of_image words)))

-- those of these words, the first of an image with columns of c words, that stand in its columns
abbrev pub covered_words : ℕ → List ℕ → List ℕ
covered_words c words = take (c * stride) (drop stride words)
