-- The offsets at which a rip is compared: from -2,939 to 2,939 samples.
use Rattle.std.specs.Prelude.{ℕ, ◌-◌, nat_lt, if◌then◌else◌, List, map, ℤ, pos, negsuc, ◌≤ℤ◌}
use Rattle.std.specs.List.{range_with_len}

-- the offset that stands at this place among them, counted from 0
abbrev pub offset_at : ℕ → ℤ
offset_at place = if nat_lt place 2939 then negsuc (2938 - place) else pos (place - 2939)

-- the first offsets, so many, rising
unfoldable pub offsets_before : ℕ → List ℤ
offsets_before count = map offset_at (range_with_len 0 count)

-- all of them
abbrev pub all_offsets : List ℤ
all_offsets = offsets_before 5879

-- an offset is no farther than those
abbrev pub IsMatchOffset : ℤ → Type 0
IsMatchOffset d = (negsuc 2938 ≤ℤ d) × (d ≤ℤ pos 2939)
