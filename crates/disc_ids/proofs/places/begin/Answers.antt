use Rattle.std.proofs.Common.{get_or, arith, ap}
use Rattle.disc_ids.proofs.PlaceLaws.{start_below}
use Rattle.disc_ids.proofs.places.begin.Goals as goal

pub overflow_add-result : goal.overflow_add-result
overflow_add-result c =
    let layout = c.args.layout.now in
    let low = start_below layout.pregap layout.starts layout.sectors layout.valid c.args.before c.requires in
    omega (arith, layout.valid.fits, ap (λ starts. get_or starts c.args.before 0) c.as_slice.ensures)

pub returns-clause-on_disc : goal.returns-clause-on_disc
returns-clause-on_disc c =
    let layout = c.args.layout.now in
    let low = start_below layout.pregap layout.starts layout.sectors layout.valid c.args.before c.requires in
    omega (arith, layout.valid.fits, ap (λ starts. get_or starts c.args.before 0) c.as_slice.ensures)
