-- What makes a layout.
use Rattle.std.specs.Prelude.{ℕ, ◌+◌, ◌-◌, ◌<◌, ◌≤◌, List, length, slice_index}
use Rattle.std.specs.List.Sorted.{IsStrictlyIncreasing}
use Rattle.rip_basics.specs.Disc.{most_sectors}

-- 1 to 99 tracks, whose starts rise and are below the end, and no more sectors than a disc has
pub record IsLayout (pregap : ℕ) (starts : List ℕ) (sectors : ℕ) : Type 0 where
  pub some : 0 < length starts
  pub few : length starts ≤ 99
  pub rising : IsStrictlyIncreasing starts
  pub inside : slice_index starts (length starts - 1) < sectors
  pub fits : pregap + sectors ≤ most_sectors
