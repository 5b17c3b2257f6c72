-- The matches of a rip with a response. Tracks and blocks count from 1.
use Rattle.std.specs.Prelude.{◌≡◌, ◌<◌, ◌⊎◌, ◌<ℤ◌, ℕ, Bool, true, false, if◌then◌else◌, List, [], ◌∷◌, ◌++◌, map, Option, None, Some, ℤ}
use Rattle.std.specs.List.{AllPairs, Contains, enumerate_from, flat_map, list_any}
use Rattle.std.specs.Ordering.{int_eq}
use Rattle.disc_toc.specs.Toc.{Toc}
use Rattle.disc_ids.specs.Numbers.{tracks}
use Rattle.accurip_match.specs.declared.block.Block.{Block}
use Rattle.accurip_match.specs.declared.ids.DiscIds.{DiscIds}
use Rattle.accurip_match.specs.declared.listing.Match.{Match}
use Rattle.accurip_match.specs.declared.listing.Sought.{Sought}
use Rattle.accurip_match.specs.declared.listing.V2Row.{V2Row}
use Rattle.accurip_match.specs.Offsets.{all_offsets}
use Rattle.accurip_match.specs.Picking.{entry_of, has_sum, ids_of, picked_offsets}
use Rattle.accurip_match.specs.Shifted.{shifted_sums, v1_at}

-- the match of a sum with a block, which has a number, if there is one
abbrev pub match_of : DiscIds → Sought → ℕ × Block → List Match
match_of ids sought numbered =
    if has_sum ids sought.track sought.sum numbered.1
    then record {
      track = sought.track;
      offset = sought.offset;
      block = numbered.0;
      confidence = (entry_of sought.track numbered.1).confidence;
      v2 = sought.v2;
      sum = sought.sum;
    } ∷ []
    else []

-- the match with a block of the sum v2 of track t at the offset d, where it is sought
abbrev pub v2_matches : DiscIds → ℕ → ℤ → Option ℕ → ℕ × Block → List Match
v2_matches ids t d None numbered = []
v2_matches ids t d (Some v2) numbered = match_of ids (record { track = t; offset = d; v2 = true; sum = v2 }) numbered

-- the matches with a block of track t at the offset d: of its sum v1, and then of its sum v2
abbrev pub block_matches : DiscIds → ℕ → ℤ → ℕ → Option ℕ → ℕ × Block → List Match
block_matches ids t d v1 v2 numbered = match_of ids (record { track = t; offset = d; v2 = false; sum = v1 }) numbered ++ v2_matches ids t d v2 numbered

-- those with all blocks
unfoldable pub offset_matches : DiscIds → List Block → ℕ → ℤ → ℕ → Option ℕ → List Match
offset_matches ids blocks t d v1 v2 = flat_map (block_matches ids t d v1 v2) (enumerate_from 1 blocks)

-- the offset is picked
abbrev pub is_picked : Toc → List Block → List ℕ → ℤ → Bool
is_picked toc blocks rip d = list_any (int_eq d) (picked_offsets toc blocks rip)

-- the sum v2 of track t at an offset, where that is picked
unfoldable pub v2_where_picked : Toc → List Block → List ℕ → ℕ → ℤ → Option ℕ
v2_where_picked toc blocks rip t d = if is_picked toc blocks rip d then Some (shifted_sums toc rip t d).v2 else None

-- the matches of track t at the offset d: those of its sum v1, and where the offset is picked, of its sum v2
unfoldable pub place_matches : Toc → List Block → List ℕ → ℕ → ℤ → List Match
place_matches toc blocks rip t d = offset_matches (ids_of toc) blocks t d (v1_at toc rip t d) (v2_where_picked toc blocks rip t d)

-- those at these offsets
unfoldable pub track_matches : Toc → List Block → List ℕ → List ℤ → ℕ → List Match
track_matches toc blocks rip offsets t = flat_map (place_matches toc blocks rip t) offsets

-- all matches, by track, offset and block, v1 before v2
unfoldable pub response_matches : Toc → List Block → List ℕ → List Match
response_matches toc blocks rip = flat_map (track_matches toc blocks rip all_offsets) (tracks toc)

-- the sums of all tracks at an offset
abbrev pub v2_row : Toc → List ℕ → ℤ → V2Row
v2_row toc rip d = record { offset = d; sums = map (λ t. shifted_sums toc rip t d) (tracks toc) }

-- those at each picked offset
unfoldable pub v2_rows : Toc → List Block → List ℕ → List V2Row
v2_rows toc blocks rip = map (v2_row toc rip) (picked_offsets toc blocks rip)

-- A match: a track's sum v1 at an offset, or its sum v2 at a picked one, that a block of the disc has for the track.
pub record IsMatch (toc : Toc) (blocks : List Block) (rip : List ℕ) (m : Match) : Type 0 where
  pub track : Contains (tracks toc) m.track
  pub offset : Contains all_offsets m.offset
  pub sum : ((m.v2 ≡ false) × (m.sum ≡ v1_at toc rip m.track m.offset)) ⊎ ((m.v2 ≡ true) × (is_picked toc blocks rip m.offset ≡ true) × (m.sum ≡ (shifted_sums toc rip m.track m.offset).v2))
  pub block : (block : Block) × Contains (enumerate_from 1 blocks) (m.block, block) × (has_sum (ids_of toc) m.track m.sum block ≡ true) × (m.confidence ≡ (entry_of m.track block).confidence)

-- by track, then by offset, then by block, and v1 before v2
abbrev pub Precedes : Match → Match → Type 0
Precedes a b =
    (a.track < b.track) ⊎ ((a.track ≡ b.track) ×
    ((a.offset <ℤ b.offset) ⊎ ((a.offset ≡ b.offset) ×
    ((a.block < b.block) ⊎ ((a.block ≡ b.block) × (a.v2 ≡ false) × (b.v2 ≡ true))))))

-- All matches and no others, each before those that come later.
pub record AreMatches (toc : Toc) (blocks : List Block) (rip : List ℕ) (matches : List Match) : Type 0 where
  pub each : (m : Match) → Contains matches m → IsMatch toc blocks rip m
  pub all : (m : Match) → IsMatch toc blocks rip m → Contains matches m
  pub rising : AllPairs Precedes matches
