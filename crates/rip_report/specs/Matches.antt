-- What `match` prints.
use Rattle.std.specs.Prelude.{ℕ, ℤ, Bool, List, ◌++◌, codes, flat_map, length, if◌then◌else◌}
use Rattle.std.specs.Fmt.{decimal}
use Rattle.accurip_match.specs.Name.{eight_hex, with_zeros}
use Rattle.accurip_match.specs.declared.listing.Match.{Match}
use Rattle.rip_report.specs.Texts.{line, offset_text}

-- which of a track's two sums it is
abbrev pub sum_name : Bool → List ℕ
sum_name v2 = if v2 then codes "v2" else codes "v1"

-- where a match is: the track in two digits, and the offset
abbrev pub place_text : ℕ → ℤ → List ℕ
place_text track offset = codes "match track " ++ with_zeros 2 (decimal track) ++ codes " offset " ++ offset_text offset

-- the block, and how many rips had the sum
abbrev pub block_text : ℕ → ℕ → List ℕ
block_text block confidence = codes " block " ++ decimal block ++ codes " confidence " ++ decimal confidence

-- the sum
abbrev pub sum_text : Bool → ℕ → List ℕ
sum_text v2 sum = line (codes " " ++ sum_name v2 ++ codes " " ++ eight_hex sum)

-- the line of a match
unfoldable pub match_line : Match → List ℕ
match_line found = place_text found.track found.offset ++ block_text found.block found.confidence ++ sum_text found.v2 found.sum

-- how many there are
abbrev pub count_line : ℕ → List ℕ
count_line count = line (codes "matches " ++ decimal count)

-- what `match` prints: a line for each match, and their number
abbrev pub matches_text : List Match → List ℕ
matches_text list = flat_map match_line list ++ count_line (length list)
