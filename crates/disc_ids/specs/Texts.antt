-- The texts of ids that are digests.
use Rattle.std.specs.Prelude.{ℕ, ◌+◌, ◌-◌, ◌*◌, ◌/◌, ◌%◌, ◌^◌, if◌then◌else◌, nat_lt, nat_le, List, ◌++◌, length, map, replicate, slice_index}
use Rattle.std.specs.List.{flat_map, range_with_len}
use Rattle.disc_toc.specs.Toc.{Toc}
use Rattle.disc_ids.specs.Places.{lead_out, track_begin}

-- a digit, 0 to 9 or A to F
abbrev pub hex_digit : ℕ → ℕ
hex_digit d = if nat_lt d 10 then 48 + d else 55 + d

-- the last digits of a number, so many, the highest first
unfoldable pub hex_digits : ℕ → ℕ → List ℕ
hex_digits count n = map (λ i. hex_digit (n / 16 ^ (count - 1 - i) % 16)) (range_with_len 0 count)

-- the place of track t from 00:00:00 on, or 0 where the disc has no such track
abbrev pub track_field : Toc → ℕ → ℕ
track_field toc t = if nat_le t (length toc.starts) then track_begin toc t + 150 else 0

-- the fields of the tracks 1 to n, eight digits each
unfoldable pub track_fields : Toc → ℕ → List ℕ
track_fields toc n = flat_map (λ t. hex_digits 8 (track_field toc t)) (range_with_len 1 n)

-- The text of the MusicBrainz id: the first track's number and the last one's in two digits each, the place of the end
-- from 00:00:00 on in eight, and the fields of 99 tracks.
unfoldable pub musicbrainz_text : Toc → List ℕ
musicbrainz_text toc = hex_digits 2 1 ++ hex_digits 2 (length toc.starts) ++ hex_digits 8 (lead_out toc + 150) ++ track_fields toc 99

-- how far after the first track so many others begin, those from the second on, in eight digits each
unfoldable pub later_starts : List ℕ → ℕ → List ℕ
later_starts starts n = flat_map (λ t. hex_digits 8 (slice_index starts (t - 1) - slice_index starts 0)) (range_with_len 2 n)

-- The text of the store key: how far after the first track the others begin, and the end, and the digit 0 up to 800
-- characters.
unfoldable pub store_key_text : Toc → List ℕ
store_key_text toc =
    later_starts toc.starts (length toc.starts - 1) ++ hex_digits 8 (toc.sectors - slice_index toc.starts 0)
    ++ replicate (800 - 8 * length toc.starts) 48
