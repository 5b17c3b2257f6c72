-- What `sums` prints of a disc.
use Rattle.std.specs.Prelude.{ℕ, ◌+◌, List, [], ◌∷◌, ◌++◌, codes, length}
use Rattle.std.specs.Fmt.{decimal}
use Rattle.accurip_match.specs.Name.{eight_hex, with_zeros}
use Rattle.accurip_sums.specs.declared.pair.Sums.{Sums}
use Rattle.disc_toc.specs.Toc.{Toc}
use Rattle.disc_ids.specs.Digest.{id_of}
use Rattle.disc_ids.specs.Numbers.{accurip_id_one, accurip_id_two, freedb_number}
use Rattle.disc_ids.specs.Texts.{musicbrainz_text, store_key_text}
use Rattle.rip_report.specs.Texts.{line}

-- a disc's tracks in three digits, its two ids at AccurateRip and that at FreeDB
unfoldable pub disc_line : Toc → List ℕ
disc_line toc = line (
    codes "disc " ++ with_zeros 3 (decimal (length toc.starts))
    ++ codes "-" ++ eight_hex (accurip_id_one toc)
    ++ codes "-" ++ eight_hex (accurip_id_two toc)
    ++ codes "-" ++ eight_hex (freedb_number toc))

-- the id at MusicBrainz, and the key in a store
unfoldable pub id_lines : Toc → List ℕ
id_lines toc = line (codes "musicbrainz " ++ id_of (musicbrainz_text toc)) ++ line (codes "key " ++ id_of (store_key_text toc))

-- a track's number in two digits, and its sums
unfoldable pub track_line : ℕ → Sums → List ℕ
track_line number sums = line (codes "track " ++ with_zeros 2 (decimal number) ++ codes " v1 " ++ eight_hex sums.v1 ++ codes " v2 " ++ eight_hex sums.v2)

-- the tracks from the one with this number on
unfoldable pub track_lines : ℕ → List Sums → List ℕ
track_lines number [] = []
track_lines number (sums ∷ later) = track_line number sums ++ track_lines (number + 1) later

-- a disc, whose tracks have these sums
abbrev pub sums_text : Toc → List Sums → List ℕ
sums_text toc sums = disc_line toc ++ id_lines toc ++ track_lines 1 sums
