-- Audio images: lists of 16-bit words, a left word and a right word for each sample.
use Rattle.std.specs.Prelude.{◌≡◌, ℕ, ◌*◌, ◌^◌, ◌<◌, List, length}
use Rattle.std.specs.List.{All}
use Rattle.rip_basics.specs.Disc.{sector_words}

-- each of these numbers is a word
abbrev pub AreWords : List ℕ → Type 0
AreWords y = All (λ w. w < 2 ^ 16) y

-- An image of s sectors: 588 samples, or 1,176 words, for each sector.
pub record IsImage (s : ℕ) (image : List ℕ) : Type 0 where
  pub words : AreWords image
  pub whole : length image ≡ sector_words * s
