-- The words that a seed makes.
use Rattle.std.specs.Prelude.{ℕ, zero, suc, ◌+◌, ◌*◌, ◌/◌, ◌%◌, ◌^◌, List, map}
use Rattle.std.specs.List.{range_with_len}

-- the generator's number after this one
abbrev pub next : ℕ → ℕ
next s = (s * 25214903917 + 11) % 2 ^ 48

-- the generator's number after n steps; the seed is the first
abbrev pub state : ℕ → ℕ → ℕ
state seed zero = seed
state seed (suc n) = next (state seed n)

-- so many words: word i is the upper 16 of the 48 bits of the number after i + 1 steps
abbrev pub generated : ℕ → ℕ → List ℕ
generated seed count = map (λ i. state seed (i + 1) / 2 ^ 32) (range_with_len 0 count)
