use Rattle.std.proofs.Common.{◌+◌, arith}
use Rattle.disc_toc.specs.Toc.{toc_of}
use Rattle.engine_sums.proofs.BeginLaws.{begin_rises, begin_within}
use Rattle.cmd_sums.proofs.sum_track.Goals as goal

pub overflow_sub-end : goal.overflow_sub-end
overflow_sub-end g c =
    let layout = c.args.layout.now in
    omega (arith, begin_rises (toc_of layout) layout.valid c.args.i c.requires.track)

pub overflow_mul-end : goal.overflow_mul-end
overflow_mul-end g c =
    let layout = c.args.layout.now in
    omega (arith, layout.valid.fits, begin_within (toc_of layout) layout.valid (c.args.i + 1) (omega arith))

pub sum_words-requires-clause-begins : goal.sum_words-requires-clause-begins
sum_words-requires-clause-begins g c =
    let layout = c.args.layout.now in
    omega (arith, begin_rises (toc_of layout) layout.valid c.args.i c.requires.track)

pub sum_words-requires-clause-ends : goal.sum_words-requires-clause-ends
sum_words-requires-clause-ends g c =
    let layout = c.args.layout.now in
    omega (arith, c.requires.count, begin_within (toc_of layout) layout.valid (c.args.i + 1) (omega arith))
