-- The sheets that are written for a disc: one with a file for each track, and one with a single file.
use Rattle.std.specs.Prelude.{ℕ, ◌+◌, ◌/◌, ◌%◌, ◌==◌, List, [], ◌∷◌, ◌++◌, codes, flat_map, if◌then◌else◌}
use Rattle.disc_toc.specs.Toc.{Toc}

-- a number below 100 in two digits
abbrev pub two_digits : ℕ → List ℕ
two_digits number = (48 + number / 10) ∷ (48 + number % 10) ∷ []

-- a time in minutes of 60 seconds, seconds of 75 sectors, and sectors
abbrev pub time_text : ℕ → List ℕ
time_text sectors = two_digits (sectors / 75 / 60) ++ codes ":" ++ two_digits (sectors / 75 % 60) ++ codes ":" ++ two_digits (sectors % 75)

-- the file of a track
abbrev pub track_file : ℕ → List ℕ
track_file number = codes "track" ++ two_digits number ++ codes ".wav"

-- ---- lines

abbrev pub file_line : List ℕ → List ℕ
file_line name = codes "FILE \"" ++ name ++ codes "\" WAVE"

abbrev pub number_line : ℕ → List ℕ
number_line number = codes "  TRACK " ++ two_digits number ++ codes " AUDIO"

-- a pregap has a line where there is one
abbrev pub pregap_lines : ℕ → List (List ℕ)
pregap_lines pregap = if pregap == 0 then [] else (codes "    PREGAP " ++ time_text pregap) ∷ []

abbrev pub index_line : ℕ → List ℕ
index_line time = codes "    INDEX 01 " ++ time_text time

-- the lines of a track: its number, the pregap before it, and the time at which it begins in its file
abbrev pub entry_lines : ℕ → ℕ → ℕ → List (List ℕ)
entry_lines number pregap time = number_line number ∷ pregap_lines pregap ++ index_line time ∷ []

-- ---- the sheets, line by line

-- the tracks from the one with this number on, each in a file of its own, with which it begins
abbrev pub later_lines : ℕ → List ℕ → List (List ℕ)
later_lines number [] = []
later_lines number (start ∷ starts) = file_line (track_file number) ∷ entry_lines number 0 0 ++ later_lines (number + 1) starts

-- a file for each track, of which the first has all that is before its track
abbrev pub split_lines : ℕ → List ℕ → List (List ℕ)
split_lines pregap [] = []
split_lines pregap (first ∷ later) = file_line (track_file 1) ∷ entry_lines 1 pregap first ++ later_lines 2 later

-- the tracks from the one with this number on, which begin in one file at these times
abbrev pub joined_lines : ℕ → ℕ → List ℕ → List (List ℕ)
joined_lines number pregap [] = []
joined_lines number pregap (start ∷ starts) = entry_lines number pregap start ++ joined_lines (number + 1) 0 starts

-- one file for all tracks
abbrev pub join_lines : List ℕ → ℕ → List ℕ → List (List ℕ)
join_lines name pregap starts = file_line name ∷ joined_lines 1 pregap starts

-- ---- the sheets as texts

-- lines as a text: each ends with a line feed
abbrev pub text_of_lines : List (List ℕ) → List ℕ
text_of_lines lines = flat_map (λ one. one ++ 10 ∷ []) lines

-- the sheet of a disc in a file for each track
abbrev pub split_text : Toc → List ℕ
split_text toc = text_of_lines (split_lines toc.pregap toc.starts)

-- the sheet of a disc in the file of this name
abbrev pub join_text : List ℕ → Toc → List ℕ
join_text name toc = text_of_lines (join_lines name toc.pregap toc.starts)

-- ---- the code's own: functions inside the crate say it of their steps, and no public contract does

-- what the first track has, and no other one: that before which there are i
abbrev pub first_only : ℕ → ℕ → ℕ
first_only value i = if i == 0 then value else 0
