-- The seal of a disc: by it the words that parity mends are known for the registered ones.
use Rattle.std.specs.Prelude.{◌≡◌, ℕ, List, [], ◌++◌, replicate, IsTrue}
use Rattle.sha2.specs.Sha256.{sha256}
use Rattle.sha2.specs.Hashers.{Holds256}
use Rattle.column_map.specs.Columns.{WordTable, table_words}
use Rattle.wav_frames.specs.Wav.{bytes_of}
use Rattle.image_mender.specs.declared.sealing.Sealer.{Sealer}

-- the seal of words: the SHA-256 of their bytes, low byte first
abbrev pub seal_of_words : List ℕ → List ℕ
seal_of_words words = sha256 (bytes_of words)

-- the seal of a table: that of its words, of columns of c words, in the order in which an image has them
abbrev pub seal_of_table : ℕ → WordTable → List ℕ
seal_of_table c table = seal_of_words (table_words c table)

-- The sealer has taken in these words, one after another: the front was hashed, and behind it stands a run of one word. As long as there
-- is nothing but the run, nothing was hashed.
pub record Seals (sealer : Sealer) (words : List ℕ) : Type 0 where
  pub front : List ℕ
  pub whole : words ≡ front ++ replicate sealer.behind sealer.word
  pub hashed : Holds256 sealer.hasher (bytes_of front)
  pub alone : IsTrue sealer.is_run → front ≡ []
