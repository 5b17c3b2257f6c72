-- The tracks of a rip at an offset, and their sums. Tracks count from 1.
use Rattle.std.specs.Prelude.{ℕ, suc, ◌+◌, ◌-◌, ◌*◌, ◌==◌, nat_lt, if◌then◌else◌, List, length, map, slice_index, ℤ, pos, negsuc}
use Rattle.std.specs.List.{range_with_len}
use Rattle.disc_toc.specs.Toc.{Toc}
use Rattle.accurip_sums.specs.Track.{track_sums}
use Rattle.accurip_sums.specs.declared.pair.Sums.{Sums}

-- the sector in which track t begins
abbrev pub track_start : Toc → ℕ → ℕ
track_start toc t = slice_index toc.starts (t - 1)

-- the sector in which it ends: where the next track begins, or the audio ends
abbrev pub track_end : Toc → ℕ → ℕ
track_end toc t = if nat_lt t (length toc.starts) then slice_index toc.starts t else toc.sectors

-- its samples
abbrev pub track_samples : Toc → ℕ → ℕ
track_samples toc t = 588 * (track_end toc t - track_start toc t)

-- the word that stands d samples after the place i of a rip, or 0 where there is none
abbrev pub moved_word : List ℕ → ℤ → ℕ → ℕ
moved_word rip (pos d) i = slice_index rip (i + 2 * d)
moved_word rip (negsuc d) i = if nat_lt i (2 * suc d) then 0 else slice_index rip (i - 2 * suc d)

-- the words of track t at the offset d
unfoldable pub shifted_track : Toc → List ℕ → ℕ → ℤ → List ℕ
shifted_track toc rip t d = map (λ i. moved_word rip d (1176 * track_start toc t + i)) (range_with_len 0 (2 * track_samples toc t))

-- the sums of track t at the offset d
unfoldable pub shifted_sums : Toc → List ℕ → ℕ → ℤ → Sums
shifted_sums toc rip t d = track_sums (t == 1) (t == length toc.starts) (shifted_track toc rip t d)

-- the first of the two
abbrev pub v1_at : Toc → List ℕ → ℕ → ℤ → ℕ
v1_at toc rip t d = (shifted_sums toc rip t d).v1
