use Rattle.std.proofs.Common.{◌≡◌, ℕ, List, pos, ◌+ℤ◌, ◌≤ℤ◌}
use borrow.Author.Gap.{gap}
use Rattle.column_map.specs.Columns.{per_column}
use Rattle.syndrome_stream.specs.Starts.{StartsStandFor}
use Rattle.offset_search.proofs.Scanned.{AreFar}
use Rattle.offset_search.proofs.scanning.Search.next_near.Given as goal

abbrev pub invariant-loop-d : goal.invariant-loop-d
invariant-loop-d g l = record {
  starts : l.self.starts ≡ l.initial.self.starts;
  wanted : l.self.wanted ≡ l.initial.self.wanted;
  found : l.self.found ≡ l.initial.self.found;
  least : l.from ≤ℤ l.d;
  most : l.d ≤ℤ pos 5880;
  far : (y : List ℕ) → StartsStandFor g.row.P (g.S.Starts.sectors l.initial.self.starts) (g.S.Starts.row l.initial.self.starts) y
      → AreFar g.row.P (per_column (g.S.Starts.sectors l.initial.self.starts)) y l.initial.self.wanted l.from l.d;
}

abbrev pub decreases-loop-d : goal.decreases-loop-d
decreases-loop-d g l = gap l.d (pos 5879 +ℤ pos 1)
