use Rattle.std.proofs.Common.{◌≡◌, ◌%◌, ◌^◌}
use Rattle.std.specs.List.{range_with_len, sum_by}
use Rattle.disc_toc.specs.Toc.{toc_of}
use Rattle.disc_ids.specs.Places.{track_begin}
use Rattle.disc_ids.proofs.numbers.accurip_one.Given as goal

abbrev pub invariant-loop-i : goal.invariant-loop-i
invariant-loop-i l = l.sum ≡ sum_by (track_begin (toc_of l.layout)) (range_with_len 1 l.i) % 2 ^ 32
