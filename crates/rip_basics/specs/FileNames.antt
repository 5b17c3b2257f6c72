-- The names of folders.
use Rattle.std.specs.Prelude.{ℕ, ◌-◌, ◌==◌, Bool, List, length, slice_index}

-- a name that ends in "/" is a folder's
abbrev pub ends_in_slash : List ℕ → Bool
ends_in_slash name = slice_index name (length name - 1) == 47
