use Rattle.std.proofs.Common.{ap, arith, ◌∙◌}
use Rattle.disc_toc.specs.Toc.{toc_of}
use Rattle.disc_ids.specs.Numbers.{digit_sum, second}
use Rattle.disc_ids.specs.Places.{track_begin}
use Rattle.disc_ids.proofs.NumberLaws.{sum-more}
use Rattle.disc_ids.proofs.numbers.digits_of_tracks.Goals as goal

pub loop-i-preserved : goal.loop-i-preserved
loop-i-preserved c =
    let more = sum-more (λ t. digit_sum (second (track_begin (toc_of c.args.layout.now) t))) c.loop-i.i in
    let term = c.sum_of_digits-digits.ensures.sum ∙ ap digit_sum (c.second_of.ensures.second ∙ ap second c.begin.ensures.place) in
    record { sum = omega (arith, more, term); small = omega arith }
