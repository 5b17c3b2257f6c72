-- The files of a trial, which stand on a shelf of its own.
use Rattle.std.specs.Prelude.{◌≡◌, ℕ, ◌*◌, List, None, Result, IfOk, codes, length}
use Rattle.std.specs.FinMap.{empty, insert}
use Rattle.rip_outside.specs.Files.{Files, after_put}
use Rattle.disc_toc.specs.OneTrack.{one_track_of}
use Rattle.wav_frames.specs.Wav.{wav_bytes}
use Rattle.rip_outside.specs.Outputs.{part_of}
use Rattle.column_map.specs.Columns.{IsSectorCount}
use Rattle.column_map.specs.declared.candidate.Candidate.{Candidate}
use Rattle.rip_report.specs.declared.status.Status.{Status}
use Rattle.engine_words.specs.Records.{record_of}
use Rattle.engine_search.specs.Picking.{AreMended, Picks}
use Rattle.cmd_trial.specs.TrialOutcome.{known_rip}

-- the disc's image alone
unfoldable pub disc_files : List ℕ → Files
disc_files disc = insert empty (codes "disc.wav") (wav_bytes disc)

-- a disc of so many sectors stands on the shelf, and nothing else
abbrev pub IsAlone : ℕ → List ℕ → Files → Type 0
IsAlone sectors disc files = IsSectorCount sectors × (length disc ≡ 1176 * sectors) × (files ≡ disc_files disc)

-- and its record, with 8 parity words for each column
unfoldable pub registered_files : ℕ → List ℕ → Files
registered_files sectors disc = after_put (part_of (codes "disc.rpar")) (codes "disc.rpar") (record_of 8 (one_track_of sectors) disc) (disc_files disc)

-- and a rip
unfoldable pub trial_files : ℕ → List ℕ → List ℕ → Files
trial_files sectors disc rip = insert (registered_files sectors disc) (codes "rip.wav") (wav_bytes rip)

-- and the mended rip
unfoldable pub mended_files : ℕ → List ℕ → List ℕ → List ℕ → Files
mended_files sectors disc rip mended = after_put (part_of (codes "out.wav")) (codes "out.wav") (wav_bytes mended) (trial_files sectors disc rip)

-- what a trial holds once its rip was to be mended: the mended rip of the picked offset, if one was picked
abbrev pub IsMendedTrial : ℕ → List ℕ → List ℕ → Result Candidate Status → Files → Type 0
IsMendedTrial sectors disc rip picked files =
    Picks None (known_rip sectors disc rip) picked
    × IfOk picked (λ at. (mended : List ℕ) × AreMended (known_rip sectors disc rip) at.offset mended × (files ≡ mended_files sectors disc rip mended))
