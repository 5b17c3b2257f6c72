-- What is written of a disc that is split into its tracks, and of one that is joined.
use Rattle.std.specs.Prelude.{ℕ, ◌+◌, List, [], ◌∷◌, ◌++◌, codes, length, map}
use Rattle.std.specs.List.{range_with_len}
use Rattle.rip_outside.specs.Outputs.{Output}
use Rattle.disc_toc.specs.Toc.{Toc}
use Rattle.wav_frames.specs.Wav.{wav_bytes}
use Rattle.track_split.specs.Cuts.{cut_words}
use Rattle.track_split.specs.Sheets.{join_text, split_text, track_file}

-- WAV files of these words, one after another, and the sheet under the name that is left
abbrev pub files_named : List (List ℕ) → List (List ℕ) → List ℕ → List Output
files_named (name ∷ names) (words ∷ later) sheet = record { name = name; bytes = wav_bytes words } ∷ files_named names later sheet
files_named (name ∷ names) [] sheet = record { name = name; bytes = sheet } ∷ []
files_named [] words sheet = []

-- the names in a folder: one for each of so many tracks, and that of the sheet
abbrev pub split_names : List ℕ → ℕ → List (List ℕ)
split_names folder tracks = map (λ i. folder ++ track_file (i + 1)) (range_with_len 0 tracks) ++ (folder ++ codes "disc.cue") ∷ []

-- the name of the WAV file, and that of its sheet
abbrev pub join_names : List ℕ → List (List ℕ)
join_names to = to ∷ ((to ++ codes ".cue") ∷ [])

-- a WAV file for each track, and then the sheet
abbrev pub split_outputs : List ℕ → Toc → List ℕ → List Output
split_outputs folder toc words = files_named (split_names folder (length toc.starts)) (cut_words toc words) (split_text toc)

-- one WAV file, and then its sheet, which names it so
abbrev pub join_outputs : List ℕ → List ℕ → Toc → List ℕ → List Output
join_outputs to name toc words = files_named (join_names to) (words ∷ []) (join_text name toc)
