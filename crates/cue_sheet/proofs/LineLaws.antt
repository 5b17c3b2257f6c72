-- Lines and blanks, as the code finds them.
use Rattle.std.proofs.Common.{◌≡◌, ℕ, suc, ◌+◌, ◌<◌, ◌≤◌, List, [], ◌∷◌, length, Bool, true, false, refl, ap, ◌∙◌, arith, drop, one-add, length-drop}
use Rattle.std.specs.Prelude.{◌==◌}
use Rattle.std.specs.List.{before_first, after_first, position_or_len, prefix_len, suffix_len}
use Rattle.std.proofs.lemmas.List.Sums.{prefix_len-le-length, suffix_len-le-length}
use Rattle.cue_sheet.specs.Lines.{lines_of, begun_with}

pub prefix_within : (p : ℕ → Bool) (text : List ℕ) → prefix_len p text ≤ length text
prefix_within p text = prefix_len-le-length p text

pub suffix_within : (p : ℕ → Bool) (text : List ℕ) → suffix_len p text ≤ length text
suffix_within p text = suffix_len-le-length p text

abbrev pub ends_line : ℕ → Bool
ends_line byte = byte == 10

before_at : (byte : ℕ) (text : List ℕ) → ends_line byte ≡ true → before_first ends_line (byte ∷ text) ≡ []
before_at byte text e = rw e refl

after_at : (byte : ℕ) (text : List ℕ) → ends_line byte ≡ true → after_first ends_line (byte ∷ text) ≡ text
after_at byte text e = rw e refl

before_more : (byte : ℕ) (text : List ℕ) → ends_line byte ≡ false → before_first ends_line (byte ∷ text) ≡ byte ∷ before_first ends_line text
before_more byte text e = rw (e, one-add) refl

drop_more : (byte : ℕ) (text : List ℕ) (n : ℕ) → drop ((1 + n) + 1) (byte ∷ text) ≡ drop (n + 1) text
drop_more byte text n = let e : (1 + n) + 1 ≡ suc (n + 1) = omega arith in rw e refl

after_more : (byte : ℕ) (text : List ℕ) → ends_line byte ≡ false → after_first ends_line (byte ∷ text) ≡ after_first ends_line text
after_more byte text e = rw e (drop_more byte text _)

no_lines : lines_of [] ≡ []
unfolding lines_of
no_lines = refl

line_ends : (byte : ℕ) (text : List ℕ) → ends_line byte ≡ true → lines_of (byte ∷ text) ≡ [] ∷ lines_of text
unfolding lines_of
line_ends byte text e = rw e refl

line_goes_on : (byte : ℕ) (text : List ℕ) → ends_line byte ≡ false → lines_of (byte ∷ text) ≡ begun_with byte (lines_of text)
unfolding lines_of
line_goes_on byte text e = rw e refl

-- a text that isn't empty is its first line, and the lines after that
pub lines_split : (text : List ℕ) → 0 < length text → lines_of text ≡ before_first ends_line text ∷ lines_of (after_first ends_line text)
lines_split [] some = absurd (omega arith)
lines_split (byte ∷ []) some = by (ends_line byte) refl
  where
    by : (ends : Bool) → ends_line byte ≡ ends → lines_of (byte ∷ []) ≡ before_first ends_line (byte ∷ []) ∷ lines_of (after_first ends_line (byte ∷ []))
    by true e = rw (before_at byte [] e, after_at byte [] e) (line_ends byte [] e)
    by false e = rw (before_more byte [] e, after_more byte [] e, line_goes_on byte [] e, no_lines) refl
lines_split (byte ∷ (more ∷ text)) some = by (ends_line byte) refl (lines_split (more ∷ text) (omega arith))
  where
    by : (ends : Bool) → ends_line byte ≡ ends → lines_of (more ∷ text) ≡ before_first ends_line (more ∷ text) ∷ lines_of (after_first ends_line (more ∷ text))
        → lines_of (byte ∷ (more ∷ text)) ≡ before_first ends_line (byte ∷ (more ∷ text)) ∷ lines_of (after_first ends_line (byte ∷ (more ∷ text)))
    by true e later = rw (before_at byte (more ∷ text) e, after_at byte (more ∷ text) e) (line_ends byte (more ∷ text) e)
    by false e later = rw (before_more byte (more ∷ text) e, after_more byte (more ∷ text) e) (line_goes_on byte (more ∷ text) e ∙ ap (begun_with byte) later)

-- the text after a line is shorter
pub after_shorter : (text : List ℕ) → 0 < length text → length (after_first ends_line text) < length text
after_shorter text some = omega (arith, length-drop (position_or_len ends_line text + 1) text)
