use Rattle.std.proofs.Common.{ap, arith, get_or}
use Rattle.disc_ids.proofs.PlaceLaws.{start_below}
use Rattle.track_split.proofs.sheets.own_time.Goals as goal

pub returns-then-i-eq0-clause-bound : goal.returns-then-i-eq0-clause-bound
returns-then-i-eq0-clause-bound c =
    let layout = c.args.layout.now in
    omega (arith, start_below layout.pregap layout.starts layout.sectors layout.valid 0 layout.valid.some, layout.valid.fits, ap (λ xs. get_or xs 0 0) c.as_slice.ensures)
