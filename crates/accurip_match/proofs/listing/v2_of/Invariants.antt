use Rattle.std.proofs.Common.{◌≡◌, false, take}
use Rattle.std.specs.List.{list_any}
use Rattle.std.specs.Ordering.{int_eq}
use Rattle.accurip_match.specs.declared.listing.V2Row.{V2Row}
use Rattle.accurip_match.proofs.listing.v2_of.Given as goal

abbrev pub invariant-loop-row : goal.invariant-loop-row
invariant-loop-row l = list_any (λ (row : V2Row). int_eq l.offset row.offset) (take l.row-index l.rows) ≡ false
