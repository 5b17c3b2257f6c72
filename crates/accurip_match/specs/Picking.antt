-- The offsets that are picked: at which some track has the sum v1 of a block.
use Rattle.std.specs.Prelude.{ℕ, ◌-◌, ◌==◌, Bool, not, ◌&&◌, List, ◌∷◌, ◌++◌, length, slice_index_or, filter, take, ℤ, pos, int_lt}
use Rattle.std.specs.List.{list_any}
use Rattle.std.specs.Ordering.{int_eq}
use Rattle.disc_toc.specs.Toc.{Toc}
use Rattle.disc_ids.specs.Numbers.{accurip_id_one, accurip_id_two, freedb_number, tracks}
use Rattle.accurip_match.specs.declared.block.Block.{Block}
use Rattle.accurip_match.specs.declared.block.Entry.{Entry}
use Rattle.accurip_match.specs.declared.ids.DiscIds.{DiscIds}
use Rattle.accurip_match.specs.Offsets.{all_offsets}
use Rattle.accurip_match.specs.Shifted.{v1_at}

-- the ids and the number of tracks by which a block knows a disc
abbrev pub ids_of : Toc → DiscIds
ids_of toc = record { id1 = accurip_id_one toc; id2 = accurip_id_two toc; freedb = freedb_number toc; tracks = length toc.starts }

-- the block is the disc's
abbrev pub is_of_disc : DiscIds → Block → Bool
is_of_disc ids block = (block.id1 == ids.id1) && (block.id2 == ids.id2) && (block.freedb == ids.freedb) && (length block.entries == ids.tracks)

abbrev pub no_entry : Entry
no_entry = record { confidence = 0; sum = 0; extra = 0 }

-- the entry of track t
abbrev pub entry_of : ℕ → Block → Entry
entry_of t block = slice_index_or block.entries (t - 1) no_entry

-- the block is the disc's and has this sum for track t; a sum of 0 is none
abbrev pub has_sum : DiscIds → ℕ → ℕ → Block → Bool
has_sum ids t sum block = is_of_disc ids block && ((entry_of t block).sum == sum) && not (sum == 0)

-- some track has at the offset d the sum v1 of some block
unfoldable pub has_v1_match : Toc → List Block → List ℕ → ℤ → Bool
has_v1_match toc blocks rip d = list_any (λ t. list_any (has_sum (ids_of toc) t (v1_at toc rip t d)) blocks) (tracks toc)

-- an offset other than 0 at which one has
abbrev pub is_other : Toc → List Block → List ℕ → ℤ → Bool
is_other toc blocks rip d = not (int_eq d (pos 0)) && has_v1_match toc blocks rip d

-- the first eight of them
unfoldable pub other_offsets : Toc → List Block → List ℕ → List ℤ
other_offsets toc blocks rip = take 8 (filter (is_other toc blocks rip) all_offsets)

-- 0 among other offsets
unfoldable pub with_zero : List ℤ → List ℤ
with_zero others = filter (λ d. int_lt d (pos 0)) others ++ pos 0 ∷ filter (λ d. int_lt (pos 0) d) others

-- the picked offsets, rising: 0 and the first eight others at which some track has a v1 match
abbrev pub picked_offsets : Toc → List Block → List ℕ → List ℤ
picked_offsets toc blocks rip = with_zero (other_offsets toc blocks rip)
