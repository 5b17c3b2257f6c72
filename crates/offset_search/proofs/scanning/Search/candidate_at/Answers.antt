use Rattle.std.proofs.Common.{◌≡◌, true, false, subst, sym, ℤ, w32}
use Rattle.std.proofs.lemmas.Int.{to_z-of_z}
use Rattle.column_map.specs.Columns.{per_column}
use Rattle.offset_search.specs.Near.{IsNear}
use Rattle.offset_search.proofs.Scanned.{looks_near}
use Rattle.offset_search.proofs.scanning.Search.candidate_at.Goals as goal

pub returns-in-Ok-clause-looks : goal.returns-in-Ok-clause-looks
returns-in-Ok-clause-looks g c y stand =
    looks_near g.row.P (per_column (g.S.Starts.sectors c.args.self.now.starts)) y c.args.d _ c.args.self.now.wanted _
    (to_z-of_z w32 c.args.d c.ranges.d) (to_z-of_z w32 c.args.d c.ranges.d) c.requires.offset (c.in-Ok.ensures.near y stand)

pub returns-in-Err-clause-looks : goal.returns-in-Err-clause-looks
returns-in-Err-clause-looks g c y stand near =
    let no : false ≡ true =
    (c.in-Err.ensures.exact y stand).1
    (subst (λ (d : ℤ). IsNear g.row.P (per_column (g.S.Starts.sectors c.args.self.now.starts)) y d c.args.self.now.wanted) (sym (to_z-of_z w32 c.args.d c.ranges.d)) near) in
    absurd (cc)
