use Rattle.std.proofs.Common.{◌≡◌, ◌*◌, ◌≤◌}
use Rattle.std.specs.List.{range_with_len, sum_by}
use Rattle.disc_toc.specs.Toc.{toc_of}
use Rattle.disc_ids.specs.Numbers.{digit_sum, second}
use Rattle.disc_ids.specs.Places.{track_begin}
use Rattle.disc_ids.proofs.numbers.digits_of_tracks.Given as goal

abbrev pub invariant-loop-i : goal.invariant-loop-i
invariant-loop-i l = record {
  sum : l.digits ≡ sum_by (λ t. digit_sum (second (track_begin (toc_of l.layout) t))) (range_with_len 1 l.i);
  small : l.digits ≤ 5942 * l.i;
}
