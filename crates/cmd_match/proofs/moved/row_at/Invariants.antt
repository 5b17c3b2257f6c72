use Rattle.std.proofs.Common.{◌≡◌, ◌+◌, ◌*◌, ◌≤◌, length, map}
use Rattle.std.specs.Prelude.{IfSome}
use Rattle.std.specs.List.{range_with_len}
use Rattle.rip_outside.specs.Reading.{OnlyReads}
use Rattle.disc_toc.specs.Toc.{toc_of}
use Rattle.accurip_match.specs.Shifted.{shifted_sums}
use Rattle.image_mender.specs.Joined.{joined_words}
use Rattle.engine_sums.specs.Tracks.{begin_of}
use Rattle.cmd_match.proofs.moved.row_at.Given as goal

abbrev pub invariant-loop-i : goal.invariant-loop-i
invariant-loop-i g l = record {
  scratch : length l.scratch ≡ 131072;
  words : length l.words ≡ 65536;
  list : IfSome (g.S.Shelf.held l.fn.shelf) (λ files. l.list.items ≡ map (λ t. shifted_sums (toc_of l.layout) (joined_words l.image files) t l.offset) (range_with_len 1 l.i));
  only : OnlyReads g.S.Shelf l.fn.shelf l.shelf;
  taken : g.S.Shelf.taken l.shelf ≤ g.S.Shelf.taken l.fn.shelf + 2352 * begin_of (toc_of l.layout) l.i;
}
