use Rattle.std.proofs.Common.{[], get_or, subst, sym, w32}
use Rattle.std.proofs.lemmas.Int.{to_z-of_z}
use Rattle.std.proofs.lemmas.Option.{get_or_from_slice_get}
use Rattle.column_map.specs.Columns.{per_column}
use Rattle.syndrome_stream.specs.Rows.{IsRow}
use Rattle.offset_search.proofs.Decoding.{difference_is, row_at_start}
use Rattle.offset_search.proofs.scanning.difference.Goals as goal

pub returns-clause-sums : goal.returns-clause-sums
returns-clause-sums g c y stand =
    difference_is g.row.P (per_column (g.S.Starts.sectors c.args.starts.now)) y c.args.d c.args.wanted.now c.args.j c.requires.column
    c.at_start-row.result c.row.result (λ i. get_or c.row_sum.result i 0)
    (row_at_start g.row.P (g.S.Starts.sectors c.args.starts.now) _ y stand c.args.d _ c.args.j c.start_of.result c.at_start-row.result c.at_start-row.ensures c.start_of.ensures.inside c.start_of.ensures.value (to_z-of_z w32 c.args.d c.ranges.d))
    (get_or_from_slice_get c.args.wanted.now c.args.j c.row.result [] c.row.ensures.value) c.row_sum.ensures

pub returns-clause-stored : goal.returns-clause-stored
returns-clause-stored g c = subst (IsRow g.row.P) (sym (get_or_from_slice_get c.args.wanted.now c.args.j c.row.result [] c.row.ensures.value)) c.row.ensures.row
