-- The names that stand directly in a folder.
use Rattle.std.specs.Prelude.{ℕ, ◌==◌, ◌&&◌, nat_eq, Bool, false, not, List, [], ◌∷◌, length, drop, filter}
use Rattle.std.specs.List.{list_any, starts_with}
use Rattle.std.specs.FinMap.{keys}
use Rattle.rip_outside.specs.Files.{Files}

-- a file's own name: at least one byte, and no "/"
abbrev pub is_own_name : List ℕ → Bool
is_own_name [] = false
is_own_name (byte ∷ rest) = not (list_any (λ b. b == 47) (byte ∷ rest))

-- A name stands directly in a folder where it is the folder's, which ends in "/", and a file's own.
abbrev pub stands_in : List ℕ → List ℕ → Bool
stands_in folder name = starts_with nat_eq name folder && is_own_name (drop (length folder) name)

-- the held names that stand directly in a folder, in the order of their bytes
abbrev pub names_in : List ℕ → Files → List (List ℕ)
names_in folder files = filter (stands_in folder) (keys files)
