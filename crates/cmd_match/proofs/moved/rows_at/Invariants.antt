use Rattle.std.proofs.Common.{◌≡◌, ◌+◌, ◌*◌, ◌≤◌, take, vec_len, replicate}
use Rattle.std.specs.Prelude.{IfSome}
use Rattle.rip_outside.specs.Reading.{OnlyReads}
use Rattle.disc_toc.specs.Toc.{toc_of}
use Rattle.image_mender.specs.Joined.{joined_words, word_count}
use Rattle.cmd_match.specs.Span.{moved_rows}
use Rattle.cmd_match.proofs.moved.rows_at.Given as goal

abbrev pub invariant-loop-i : goal.invariant-loop-i
invariant-loop-i g l = record {
  scratch : vec_len l.scratch ≡ 131072;
  words : vec_len l.words ≡ 65536;
  silence : l.silence.items ≡ replicate 5878 0;
  rows : IfSome (g.S.Shelf.held l.fn.shelf) (λ files. l.rows.items ≡ moved_rows (toc_of l.layout) (joined_words l.image files) (take l.i l.offsets));
  only : OnlyReads g.S.Shelf l.fn.shelf l.shelf;
  taken : g.S.Shelf.taken l.shelf ≤ g.S.Shelf.taken l.fn.shelf + 2 * word_count l.image * l.i;
}
