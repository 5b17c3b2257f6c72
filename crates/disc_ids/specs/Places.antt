-- Where tracks begin and end on a disc, in sectors from the start of the pregap. Tracks count from 1.
use Rattle.std.specs.Prelude.{ℕ, ◌+◌, ◌-◌, slice_index}
use Rattle.disc_toc.specs.Toc.{Toc}

-- where track t begins
abbrev pub track_begin : Toc → ℕ → ℕ
track_begin toc t = toc.pregap + slice_index toc.starts (t - 1)

-- where the last track ends
abbrev pub lead_out : Toc → ℕ
lead_out toc = toc.pregap + toc.sectors
