use Rattle.std.proofs.Common.{◌≡◌, ◌+◌, ◌-◌, ◌*◌, ◌≤◌, ℕ, List, length, take, vec_len}
use Rattle.std.specs.Prelude.{IfSome}
use Rattle.rip_outside.specs.Reading.{OnlyReads}
use Rattle.column_map.specs.Columns.{per_column}
use Rattle.syndrome_stream.specs.Registers.{StandsFor}
use Rattle.image_mender.specs.Joined.{joined_words}
use Rattle.image_mender.specs.Seal.{Seals}
use Rattle.engine_words.specs.Records.{covered_words}
use Rattle.engine_words.proofs.sum_and_seal.Given as goal

abbrev pub invariant-pieces : goal.invariant-pieces
invariant-pieces g l = record {
  within : l.at ≤ l.all;
  scratch : vec_len l.scratch ≡ 131072;
  words : vec_len l.words ≡ 65536;
  sectors : l.registers.sectors ≡ l.fn.shape;
  position : l.registers.position ≡ l.at;
  only : OnlyReads g.S.Shelf l.fn.shelf l.shelf;
  taken : g.S.Shelf.taken l.shelf ≤ g.S.Shelf.taken l.fn.shelf + 2 * l.at;
  stands : (y : List ℕ) × StandsFor g.row.P l.registers y × Seals l.sealer (covered_words (per_column l.fn.shape) y) × (length y ≡ l.at) × IfSome (g.S.Shelf.held l.fn.shelf) (λ files. y ≡ take l.at (joined_words l.image files));
}

abbrev pub decreases-pieces : goal.decreases-pieces
decreases-pieces g l = l.all - l.at
