use Rattle.std.proofs.Common.{arith}
use Rattle.disc_toc.specs.Toc.{toc_of}
use Rattle.disc_ids.specs.Places.{track_begin}
use Rattle.disc_ids.proofs.NumberLaws.{sum-more}
use Rattle.disc_ids.proofs.numbers.accurip_one.Goals as goal

pub loop-i-preserved : goal.loop-i-preserved
loop-i-preserved c =
    let more = sum-more (track_begin (toc_of c.args.layout.now)) c.loop-i.i in
    omega (arith, more, c.begin-sum.ensures.place)
