-- The ids of a disc that are numbers.
use Rattle.std.specs.Prelude.{ℕ, ◌+◌, ◌-◌, ◌*◌, ◌/◌, ◌%◌, ◌^◌, max, List, length}
use Rattle.std.specs.Int.Digits.{digits_of}
use Rattle.std.specs.List.{range_with_len, sum, sum_by}
use Rattle.disc_toc.specs.Toc.{Toc}
use Rattle.disc_ids.specs.Places.{lead_out, track_begin}

-- the numbers of a disc's tracks
abbrev pub tracks : Toc → List ℕ
tracks toc = range_with_len 1 (length toc.starts)

-- the first id at AccurateRip
abbrev pub accurip_id_one : Toc → ℕ
accurip_id_one toc = (sum_by (track_begin toc) (tracks toc) + lead_out toc) % 2 ^ 32

-- The second: each place times the track's number, where a track that begins at 0 is as one that begins at 1, and the end
-- times the number after the last one's.
abbrev pub accurip_id_two : Toc → ℕ
accurip_id_two toc = (sum_by (λ t. max (track_begin toc t) 1 * t) (tracks toc) + lead_out toc * (length toc.starts + 1)) % 2 ^ 32

-- the sum of a number's decimal digits
unfoldable pub digit_sum : ℕ → ℕ
digit_sum n = sum (digits_of 10 n)

-- the second that a sector is in: 75 sectors are a second, and the pregap begins after two
abbrev pub second : ℕ → ℕ
second sector = (sector + 150) / 75

-- the digits of the seconds in which tracks begin, all added up
abbrev pub digits_of_seconds : Toc → ℕ
digits_of_seconds toc = sum_by (λ t. digit_sum (second (track_begin toc t))) (tracks toc)

-- the id at FreeDB: in one byte the sum of the digits of the seconds in which tracks begin, in two the seconds from the
-- first track's to the end's, and in one the number of tracks
abbrev pub freedb_number : Toc → ℕ
freedb_number toc =
    digits_of_seconds toc % 255 * 2 ^ 24
    + (second (lead_out toc) - second (track_begin toc 1)) * 2 ^ 8
    + length toc.starts
