-- Where a disc is cut into its tracks.
use Rattle.std.specs.Prelude.{ℕ, ◌+◌, ◌*◌, ◌==◌, List, length, map, slice_index_or, slice_range, if◌then◌else◌}
use Rattle.std.specs.List.{range_with_len}
use Rattle.rip_basics.specs.Disc.{sector_words}
use Rattle.disc_toc.specs.Toc.{Toc}

-- The sector of the cut before which there are i tracks. The first piece begins with the audio, each other one where its track begins, and
-- the last one ends with the audio.
abbrev pub cut_place : Toc → ℕ → ℕ
cut_place toc i = if i == 0 then 0 else slice_index_or toc.starts i toc.sectors

-- the words of the piece before which there are i: it runs to the next cut
abbrev pub piece_words : Toc → List ℕ → ℕ → List ℕ
piece_words toc words i = slice_range words (sector_words * cut_place toc i) (sector_words * cut_place toc (i + 1))

-- the words of all pieces, one for each track
abbrev pub cut_words : Toc → List ℕ → List (List ℕ)
cut_words toc words = map (piece_words toc words) (range_with_len 0 (length toc.starts))
