-- The factors of a step from one start to that a stride later, or back.
-- The code's own: functions inside the crate say it of their steps, and no public contract does.
use Rattle.std.specs.Prelude.{◌≡◌, ℕ, ◌-◌, ◌<◌, List, slice_index}
use Rattle.gf16_field.specs.Gf16.{alpha_power, power}

-- β, the inverse of α
abbrev pub beta : ℕ
beta = 0x8805

-- the first of these words are the powers of a word a, from a^0 on
pub record ArePowersOf (count a : ℕ) (powers : List ℕ) : Type 0 where
  pub each : (m : ℕ) → m < count → slice_index powers m ≡ power a m

-- The factors for columns of c words: for each syndrome m, α^m, β^m, and the weight α^(m * (c - 1)) of a column's first word.
pub record AreSteps (count c : ℕ) (rises falls firsts : List ℕ) : Type 0 where
  pub rise : ArePowersOf count 2 rises
  pub fall : ArePowersOf count beta falls
  pub first : ArePowersOf count (alpha_power (c - 1)) firsts
