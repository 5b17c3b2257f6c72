-- What `sums` comes to: the sums of a disc's tracks, whose words stand one track's after another's.
use Rattle.std.specs.Prelude.{ℕ, ◌+◌, ◌*◌, ◌==◌, List, length, map, slice_range, ◌≡◌}
use Rattle.std.specs.List.{range_with_len}
use Rattle.disc_toc.specs.Toc.{Toc}
use Rattle.accurip_sums.specs.Track.{track_sums}
use Rattle.accurip_sums.specs.declared.pair.Sums.{Sums}
use Rattle.rip_outside.specs.Files.{Files}
use Rattle.engine_steps.specs.Steps.{opened}
use Rattle.rip_report.specs.Sums.{sums_text}
use Rattle.rip_report.specs.declared.status.Status.TheVariants.{Done}
use Rattle.engine_steps.specs.Outcome.{Outcome, answered, Then}
use Rattle.engine_sums.specs.Tracks.{begin_of}

-- the words of a track: it runs to where the next one begins
unfoldable pub track_words : Toc → List ℕ → ℕ → List ℕ
track_words toc words i = slice_range words (1176 * begin_of toc i) (1176 * begin_of toc (i + 1))

-- its sums, where the first track and the last leave some samples out
unfoldable pub sums_of : Toc → List ℕ → ℕ → Sums
sums_of toc words i = track_sums (i == 0) (i + 1 == length toc.starts) (track_words toc words i)

-- the sums of all tracks, first track first
unfoldable pub disc_sums : Toc → List ℕ → List Sums
disc_sums toc words = map (sums_of toc words) (range_with_len 0 (length toc.starts))

-- `sums INPUT` tells the rip's ids and the sums of its tracks.
abbrev pub IsSumsOutcome : List ℕ → Files → Outcome → Type 0
IsSumsOutcome input files = Then (opened input files) (λ rip outcome. outcome ≡ answered Done (sums_text rip.toc (disc_sums rip.toc rip.words)))
