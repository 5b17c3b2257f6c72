-- The parts of which pieces are read.
use Rattle.std.specs.Prelude.{List, [], ◌∷◌, codes}
use Rattle.image_mender.specs.declared.image.Part.{Part}

-- four words behind a byte, and two
abbrev pub two_parts : List Part
two_parts = record { name = codes "a"; data_at = 1; words = 4 } ∷ record { name = codes "b"; data_at = 0; words = 2 } ∷ []
