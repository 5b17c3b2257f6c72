use Rattle.std.proofs.Common.{◌≡◌, ℕ, ◌+◌, ◌-◌, ◌<◌, ◌≤◌, List, [], get_or, vec_len}
use Rattle.std.specs.Prelude.{vec_capacity}
use Rattle.column_map.specs.Columns.{per_column}
use Rattle.syndrome_stream.specs.Parity.{parity_at}
use Rattle.offset_slide.specs.Slides.{TableAndEdgesStandFor}
use Rattle.offset_slide.proofs.slides.Slides.new.Given as goal

abbrev pub invariant-loop-a : goal.invariant-loop-a
invariant-loop-a g l = record {
  long : vec_len l.rows ≡ l.a - 2;
  room : 35276 ≤ vec_capacity l.rows;
  done : (y : List ℕ) → TableAndEdgesStandFor g.row.P l.fn.table l.fn.edges y → (k : ℕ) → k + 2 < l.a → get_or l.rows.items k [] ≡ parity_at g.row.P (per_column l.fn.edges.sectors) y (k + 2);
}
