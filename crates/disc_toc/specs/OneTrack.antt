-- The layout of one file with one track that begins with it.
use Rattle.std.specs.Prelude.{◌≡◌, ◌==◌, ℕ, ◌/◌, ◌%◌, [], ◌∷◌, Result, Ok, Err, if◌then◌else◌, nat_lt}
use Rattle.std.specs.Result.{result_map_both}
use Rattle.rip_basics.specs.Disc.{most_sectors, sector_words}
use Rattle.disc_toc.specs.declared.layout.Layout.{Layout}
use Rattle.disc_toc.specs.declared.reading.LayoutKind.{LayoutKind}
use Rattle.disc_toc.specs.declared.reading.LayoutKind.TheVariants.{NotWholeSectors, IndexPastEnd, TooLong}
use Rattle.disc_toc.specs.declared.reading.LayoutFail.{LayoutFail}
use Rattle.disc_toc.specs.declared.reading.LayoutFail.TheVariants.{Refused, Oom}
use Rattle.disc_toc.specs.Toc.{Toc, toc_of}

-- the sectors that a sole file's words are, where its track is a disc
abbrev pub sectors_reading : ℕ → Result ℕ LayoutKind
sectors_reading words =
    if words % sector_words == 0 then
    (if words / sector_words == 0 then Err (IndexPastEnd 1)
    else if nat_lt most_sectors (words / sector_words) then Err (TooLong (words / sector_words))
    else Ok (words / sector_words))
    else Err (NotWholeSectors 1)

-- no pregap, and one track that begins with the audio
abbrev pub one_track_of : ℕ → Toc
one_track_of sectors = record { pregap = 0; starts = 0 ∷ []; sectors = sectors }

abbrev pub one_track_reading : ℕ → Result Toc LayoutKind
one_track_reading words = result_map_both one_track_of (λ kind. kind) (sectors_reading words)

-- a layout or a refusal exactly as it is read, or want of memory
abbrev pub Answers : Result Layout LayoutFail → Result Toc LayoutKind → Type 0
Answers (Ok layout) reading = reading ≡ Ok (toc_of layout)
Answers (Err (Refused kind)) reading = reading ≡ Err kind
Answers (Err Oom) reading = Unit {0}
