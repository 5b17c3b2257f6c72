use Rattle.std.proofs.Common.{◌<◌, ℕ, List, length, get_or, arith, ap}
use Rattle.disc_ids.proofs.PlaceLaws.{start_below}
use Rattle.accurip_match.proofs.edges.edge_at.Goals as goal

pub overflow_mul-result : goal.overflow_mul-result
overflow_mul-result c =
    let layout = c.args.layout.now in
    let low = start_below layout.pregap layout.starts layout.sectors layout.valid 0 layout.valid.some in
    omega (arith, layout.valid.fits, ap (λ starts. get_or starts 0 0) c.as_slice-starts.ensures)

pub overflow_add-result : goal.overflow_add-result
overflow_add-result c =
    let layout = c.args.layout.now in
    let low = start_below layout.pregap layout.starts layout.sectors layout.valid 0 layout.valid.some in
    omega (arith, layout.valid.fits, ap (λ starts. get_or starts 0 0) c.as_slice-starts.ensures)

pub overflow_mul-result-then-j-starts : goal.overflow_mul-result-then-j-starts
overflow_mul-result-then-j-starts c =
    let layout = c.args.layout.now in
    let low : get_or layout.starts c.args.j 0 < layout.sectors = start_below layout.pregap layout.starts layout.sectors layout.valid c.args.j (omega (arith, c.if-j-starts.true, ap (λ (starts : List ℕ). length starts) c.as_slice-starts.ensures)) in
    omega (arith, layout.valid.fits, ap (λ starts. get_or starts c.args.j 0) c.as_slice-starts.ensures)

pub returns-then-j-eq0-clause-on_disc : goal.returns-then-j-eq0-clause-on_disc
returns-then-j-eq0-clause-on_disc c =
    let layout = c.args.layout.now in
    let low = start_below layout.pregap layout.starts layout.sectors layout.valid 0 layout.valid.some in
    omega (arith, layout.valid.fits, ap (λ starts. get_or starts 0 0) c.as_slice-starts.ensures)

pub returns-then-j-starts-clause-on_disc : goal.returns-then-j-starts-clause-on_disc
returns-then-j-starts-clause-on_disc c =
    let layout = c.args.layout.now in
    let low : get_or layout.starts c.args.j 0 < layout.sectors = start_below layout.pregap layout.starts layout.sectors layout.valid c.args.j (omega (arith, c.if-j-starts.true, ap (λ (starts : List ℕ). length starts) c.as_slice-starts.ensures)) in
    omega (arith, layout.valid.fits, ap (λ starts. get_or starts c.args.j 0) c.as_slice-starts.ensures)
