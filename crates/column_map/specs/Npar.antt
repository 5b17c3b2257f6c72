-- How many parity words a column has.
use Rattle.std.specs.Prelude.{ℕ}
use Rattle.column_map.specs.declared.npar.Npar.{Npar}
use Rattle.column_map.specs.declared.npar.Npar.TheVariants.{Four, Eight, Sixteen, ThirtyTwo}

-- so many parity words each column has
abbrev pub parity_words : Npar → ℕ
parity_words Four = 4
parity_words Eight = 8
parity_words Sixteen = 16
parity_words ThirtyTwo = 32
