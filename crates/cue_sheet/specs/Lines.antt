-- The lines of a text, and the words of a line.
use Rattle.std.specs.Prelude.{ℕ, ◌-◌, ◌==◌, ◌||◌, Bool, List, [], ◌∷◌, length, take, drop, if◌then◌else◌}
use Rattle.std.specs.List.{prefix_len, suffix_len, before_first, after_first}
use Rattle.std.specs.Str.{bytes_eq}

-- the mark of UTF-8 that a text may begin with
abbrev pub byte_order_mark : List ℕ
byte_order_mark = 0xef ∷ (0xbb ∷ (0xbf ∷ []))

unfoldable pub without_mark : List ℕ → List ℕ
without_mark text = if bytes_eq (take 3 text) byte_order_mark then drop 3 text else text

-- lines of which the first has one byte more at its front
abbrev pub begun_with : ℕ → List (List ℕ) → List (List ℕ)
begun_with byte [] = (byte ∷ []) ∷ []
begun_with byte (line ∷ lines) = (byte ∷ line) ∷ lines

-- The lines of a text: each ends at LF, or at the end of the text. Nothing after the last LF is no line.
unfoldable pub lines_of : List ℕ → List (List ℕ)
lines_of [] = []
lines_of (byte ∷ text) = if byte == 10 then [] ∷ lines_of text else begun_with byte (lines_of text)

-- a line without one CR at its end
unfoldable pub without_return : List ℕ → List ℕ
without_return line = if bytes_eq (drop (length line - 1) line) (13 ∷ []) then take (length line - 1) line else line

-- ---- words, which blanks part: spaces and tabs

abbrev pub is_blank : ℕ → Bool
is_blank byte = byte == 32 || byte == 9

-- a text without the blanks at its front, and without those at its end
unfoldable pub trim_start : List ℕ → List ℕ
trim_start text = drop (prefix_len is_blank text) text

unfoldable pub trim_end : List ℕ → List ℕ
trim_end text = take (length text - suffix_len is_blank text) text

-- the word with which a text begins, and what stands after it
unfoldable pub word_of : List ℕ → List ℕ
word_of text = before_first is_blank text

unfoldable pub after_word : List ℕ → List ℕ
after_word text = trim_start (after_first is_blank text)
