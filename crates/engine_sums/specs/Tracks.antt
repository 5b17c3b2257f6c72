-- Where the tracks of a disc begin and end.
use Rattle.std.specs.Prelude.{ℕ, nat_lt, if◌then◌else◌, length, slice_index}
use Rattle.disc_toc.specs.Toc.{Toc}

-- the sector in which the track begins before which there are i, or where the audio ends that follows the last
unfoldable pub begin_of : Toc → ℕ → ℕ
begin_of toc i = if nat_lt i (length toc.starts) then slice_index toc.starts i else toc.sectors
