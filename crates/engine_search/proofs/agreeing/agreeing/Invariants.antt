use Rattle.std.proofs.Common.{◌≡◌, ◌+◌, ◌*◌, ◌≤◌, ℕ, List, length, pos, negsuc, ℤ, ◌≤ℤ◌, vec_len}
use Rattle.std.specs.Prelude.{All, IfSome}
use Rattle.column_map.specs.Columns.{per_column}
use Rattle.rip_outside.specs.Reading.{OnlyReads}
use Rattle.image_mender.specs.Joined.{joined_words, word_count}
use Rattle.engine_steps.specs.Steps.{known_from}
use Rattle.engine_search.specs.Picking.{IsNearAt, StandFor, seal_cost}
use Rattle.engine_search.proofs.AgreementLaws.{AreFoundBelow, AreNearBelow}
use Rattle.engine_search.proofs.PickLaws.{offsets_left}
use Rattle.engine_search.proofs.agreeing.agreeing.Given as goal

abbrev pub invariant-offsets : goal.invariant-offsets
invariant-offsets g l = record {
  least : negsuc 5878 ≤ℤ l.from;
  most : l.from ≤ℤ pos 5880;
  words : vec_len l.words ≡ 65536;
  bytes : vec_len l.bytes ≡ 131072;
  few : vec_len l.found ≤ l.limit;
  starts : l.search.starts ≡ l.fn.search.starts;
  wanted : l.search.wanted ≡ l.fn.search.wanted;
  only : OnlyReads g.S.Shelf l.fn.shelf l.shelf;
  near : (y : List ℕ) → StandFor g.row.P l.fn.search.starts y → All (IsNearAt g.row.P (per_column l.fn.shape) y l.fn.search.wanted) l.found.items;
  found : (y : List ℕ) → StandFor g.row.P l.fn.search.starts y
      → IfSome (g.S.Shelf.held l.fn.shelf) (λ files. y ≡ joined_words l.fn.image files → AreFoundBelow (known_from l.fn.shape y g.row.P l.fn.search.wanted l.fn.seal) l.from l.found.items);
  taken : (y : List ℕ) → StandFor g.row.P l.fn.search.starts y
      → (near : List ℤ) × AreNearBelow (known_from l.fn.shape y g.row.P l.fn.search.wanted l.fn.seal) l.from near
      × (g.S.Shelf.taken l.shelf ≤ g.S.Shelf.taken l.fn.shelf + length near * seal_cost l.fn.seal (2 * word_count l.fn.image));
}

abbrev pub decreases-offsets : goal.decreases-offsets
decreases-offsets g l = offsets_left l.from
