-- A response: blocks, one after the other to the end of its bytes.
use Rattle.std.specs.Prelude.{◌≡◌, ℕ, ◌+◌, ◌*◌, ◌<◌, List, [], ◌∷◌, drop, length, map, slice_index}
use Rattle.std.specs.List.{range_with_len}
use Rattle.byteorder.specs.Endian.{little_number}
use Rattle.accurip_match.specs.declared.block.Block.{Block}
use Rattle.accurip_match.specs.declared.block.Entry.{Entry}
use Rattle.accurip_match.specs.declared.reading.ResponseFail.{ResponseFail}
use Rattle.accurip_match.specs.declared.reading.ResponseFail.TheVariants.{Cut, Oom}

-- the number of four bytes at this place, the lowest byte first
abbrev pub number_at : List ℕ → ℕ → ℕ
number_at bytes at = little_number 4 (drop at bytes)

-- an entry: a byte of confidence, the sum, and a number that isn't used
abbrev pub entry_at : List ℕ → ℕ → Entry
entry_at bytes at = record {
  confidence = slice_index bytes at;
  sum = number_at bytes (at + 1);
  extra = number_at bytes (at + 5);
}

-- a block: a byte that says how many tracks there are, three ids, and an entry of nine bytes for each track
unfoldable pub block_at : List ℕ → ℕ → Block
block_at bytes at = record {
  id1 = number_at bytes (at + 1);
  id2 = number_at bytes (at + 5);
  freedb = number_at bytes (at + 9);
  entries = map (λ t. entry_at bytes (at + 13 + 9 * t)) (range_with_len 0 (slice_index bytes at));
}

-- where the block that begins here ends
abbrev pub block_end : List ℕ → ℕ → ℕ
block_end bytes at = at + 13 + 9 * slice_index bytes at

-- these blocks stand one after the other from one place to another
abbrev pub AreBlocks : List ℕ → ℕ → ℕ → List Block → Type 0
AreBlocks bytes from end [] = from ≡ end
AreBlocks bytes from end (block ∷ later) = (block ≡ block_at bytes from) × AreBlocks bytes (block_end bytes from) end later

-- a block begins here that goes on past the last byte
abbrev pub IsCut : List ℕ → ℕ → Type 0
IsCut bytes at = (at < length bytes) × (length bytes < block_end bytes at)

-- a response is cut where, after whole blocks, one is; and memory may always be wanting
abbrev pub IsFail : List ℕ → ResponseFail → Type 0
IsFail bytes (Cut at) = (blocks : List Block) × AreBlocks bytes 0 at blocks × IsCut bytes at
IsFail bytes Oom = Unit {0}
