use Rattle.std.proofs.Common.{arith}
use Rattle.disc_ids.proofs.PlaceLaws.{start_below}
use Rattle.disc_ids.proofs.numbers.freedb_id.Goals as goal

pub overflow_sub-seconds : goal.overflow_sub-seconds
overflow_sub-seconds c =
    let layout = c.args.layout.now in
    let low = start_below layout.pregap layout.starts layout.sectors layout.valid 0 layout.valid.some in
    omega (arith, low)
