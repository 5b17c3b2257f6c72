-- The names of files and folders, as words name them.
use Rattle.std.specs.Prelude.{ℕ, ◌==◌, ◌&&◌, ◌||◌, Bool, not, List, [], ◌∷◌, length, if◌then◌else◌}
use Rattle.std.specs.List.{list_any}

-- the name of a file in its folder: what stands after its last "/"
unfoldable pub name_in_folder : List ℕ → List ℕ
name_in_folder [] = []
name_in_folder (byte ∷ rest) = if list_any (λ b. b == 47) (byte ∷ rest) then name_in_folder rest else byte ∷ rest

-- a quote mark and the two bytes that end a line can't stand in a name in quote marks
abbrev pub breaks_quotes : ℕ → Bool
breaks_quotes byte = byte == 34 || byte == 10 || byte == 13

-- a name that may stand in quote marks in a line
abbrev pub is_quotable : List ℕ → Bool
is_quotable name = not (length name == 0) && not (list_any breaks_quotes name)
