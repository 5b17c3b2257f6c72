use Rattle.std.proofs.Common.{◌≡◌, w32, to_z, of_z}
use Rattle.std.proofs.lemmas.Int.{to_z-of_z}
use Rattle.offset_search.proofs.Counting.{unfit_far}
use Rattle.engine_search.proofs.picking.fixes_at.Goals as goal

pub unreachable-requires : goal.unreachable-requires
unreachable-requires g c =
    let same : to_z w32 (of_z w32 c.args.d) ≡ c.args.d = to_z-of_z w32 c.args.d c.ranges.d in
    let near = c.requires.near in
    unfit_far (rw same at (c.in_default.ensures.not_near near.0 near.1)) near.2

pub returns : goal.returns
returns g c = λ y stands.
    let same : to_z w32 (of_z w32 c.args.d) ≡ c.args.d = to_z-of_z w32 c.args.d c.ranges.d in
    rw c.in_ok-copy.ensures (rw same at (c.in-Ok.ensures.fixes y stands))
