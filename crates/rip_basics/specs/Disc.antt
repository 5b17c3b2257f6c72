-- The sizes of audio CDs.
use Rattle.std.specs.Prelude.{ℕ}

-- the words of a sector: 588 samples of two words each
abbrev pub sector_words : ℕ
sector_words = 1176

-- the most sectors that a pregap and the audio after it have: 99 minutes of 60 seconds, each of 75 sectors
abbrev pub most_sectors : ℕ
most_sectors = 445500

-- the words of so many sectors
abbrev pub most_words : ℕ
most_words = 523908000
