use Rattle.std.proofs.Common.{◌≡◌, ◌+◌, ◌-◌, ◌*◌, ◌≤◌, ℕ, List, take, vec_len}
use Rattle.std.specs.Prelude.{IfSome}
use Rattle.rip_outside.specs.Reading.{OnlyReads}
use Rattle.syndrome_stream.specs.Registers.{StandsFor}
use Rattle.offset_slide.specs.Edges.{EdgesStandFor}
use Rattle.image_mender.specs.Joined.{joined_words}
use Rattle.engine_words.proofs.sum_rip.Given as goal

abbrev pub invariant-pieces : goal.invariant-pieces
invariant-pieces g l = record {
  within : l.at ≤ l.all;
  scratch : vec_len l.scratch ≡ 131072;
  words : vec_len l.words ≡ 65536;
  sectors : l.registers.sectors ≡ l.fn.shape;
  position : l.registers.position ≡ l.at;
  edge_sectors : l.edges.sectors ≡ l.fn.shape;
  edge_position : l.edges.position ≡ l.at;
  only : OnlyReads g.S.Shelf l.fn.shelf l.shelf;
  taken : g.S.Shelf.taken l.shelf ≤ g.S.Shelf.taken l.fn.shelf + 2 * l.at;
  stands : (y : List ℕ) × StandsFor g.row.P l.registers y × EdgesStandFor l.edges y × IfSome (g.S.Shelf.held l.fn.shelf) (λ files. y ≡ take l.at (joined_words l.image files));
}

abbrev pub decreases-pieces : goal.decreases-pieces
decreases-pieces g l = l.all - l.at
