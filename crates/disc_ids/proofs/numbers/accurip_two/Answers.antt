use Rattle.std.proofs.Common.{◌+◌, ◌*◌, ap, max, arith, ◌∙◌}
use Rattle.disc_toc.specs.Toc.{toc_of}
use Rattle.disc_ids.specs.Places.{track_begin}
use Rattle.disc_ids.proofs.NumberLaws.{sum-more}
use Rattle.disc_ids.proofs.numbers.accurip_two.Goals as goal

pub loop-i-preserved : goal.loop-i-preserved
loop-i-preserved c =
    let more = sum-more (λ t. max (track_begin (toc_of c.args.layout.now) t) 1 * t) c.loop-i.i in
    let term = ap (λ x. x * (c.loop-i.i + 1)) (c.max.ensures ∙ ap (λ x. max x 1) c.begin.ensures.place) in
    omega (arith, more, term)
