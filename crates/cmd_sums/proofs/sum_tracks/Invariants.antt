use Rattle.std.proofs.Common.{◌≡◌, ◌+◌, ◌*◌, ◌≤◌, map, vec_len}
use Rattle.std.specs.Prelude.{IfSome}
use Rattle.std.specs.List.{range_with_len}
use Rattle.rip_outside.specs.Reading.{OnlyReads}
use Rattle.disc_toc.specs.Toc.{toc_of}
use Rattle.image_mender.specs.Joined.{joined_words}
use Rattle.engine_sums.specs.Tracks.{begin_of}
use Rattle.cmd_sums.specs.SumsOutcome.{sums_of}
use Rattle.cmd_sums.proofs.sum_tracks.Given as goal

abbrev pub invariant-loop-i : goal.invariant-loop-i
invariant-loop-i g l = record {
  scratch : vec_len l.scratch ≡ 131072;
  words : vec_len l.words ≡ 65536;
  many : vec_len l.list ≡ l.i;
  list : IfSome (g.S.Shelf.held l.fn.shelf) (λ files. l.list.items ≡ map (sums_of (toc_of l.layout) (joined_words l.image files)) (range_with_len 0 l.i));
  only : OnlyReads g.S.Shelf l.fn.shelf l.shelf;
  taken : g.S.Shelf.taken l.shelf ≤ g.S.Shelf.taken l.fn.shelf + 2352 * begin_of (toc_of l.layout) l.i;
}
