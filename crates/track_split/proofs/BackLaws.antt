-- A sheet that is written of a disc is read as the disc.
use Rattle.std.proofs.Common.{◌≡◌, ◌∙◌, ℕ, ◌+◌, ◌/◌, ◌%◌, ◌<◌, ◌≤◌, List, [], ◌∷◌, ◌++◌, length, Bool, true, false, Ok, refl, ap, arith}
use Rattle.std.specs.Prelude.{◌==◌, codes, if◌then◌else◌}
use Rattle.std.proofs.lemmas.Bool.Decides.{nat_tests}
use Rattle.cue_sheet.specs.Lines.{lines_of}
use Rattle.cue_sheet.specs.Reading.{lines_reading, nothing_read, sheet_reading}
use Rattle.track_split.specs.Sheets.{entry_lines, file_line, index_line, join_lines, joined_lines, later_lines, number_line, pregap_lines, split_lines, text_of_lines, time_text, track_file, two_digits}
use Rattle.track_split.proofs.ClearLaws.{IsClear, clear-append, clear_seen, clear_weaker}
use Rattle.track_split.proofs.DigitLaws.{ones, tens}
use Rattle.track_split.proofs.EntryLaws.{IsQuotable, is_break, pregap_line}
use Rattle.track_split.proofs.SheetLaws.{AreClear, AreFrom, clear_lines, is_feed, join_cue, join_leads, led_to, gap_read, lines_of_text, no_mark, split_cue, split_leads, track_quotable}

-- ---- no line has a line feed

two_clear : (number : ℕ) → number < 100 → IsClear is_feed (two_digits number)
two_clear number below = ((tens number below).not_feed, ((ones number).not_feed, tt))

time_clear : (sectors : ℕ) → sectors < 450000 → IsClear is_feed (time_text sectors)
time_clear sectors below =
    let m = two_clear (sectors / 75 / 60) (omega arith) in
    let s = two_clear (sectors / 75 % 60) (omega arith) in
    let f = two_clear (sectors % 75) (omega arith) in
    (m.0, (m.1.0, (refl, (s.0, (s.1.0, (refl, f))))))

feed_from_break : (byte : ℕ) → is_break byte ≡ false → is_feed byte ≡ false
feed_from_break byte e = grind (arith, nat_tests)

file_clear : (name : List ℕ) → IsQuotable name → IsClear is_feed (file_line name)
file_clear name may =
    clear-append is_feed (codes "FILE \"" ++ name) (codes "\" WAVE")
    (clear-append is_feed (codes "FILE \"") name (clear_seen is_feed (codes "FILE \"") refl) (clear_weaker is_break is_feed name feed_from_break may.breaks))
    (clear_seen is_feed (codes "\" WAVE") refl)

number_clear : (number : ℕ) → number < 100 → IsClear is_feed (number_line number)
number_clear number below =
    clear-append is_feed (codes "  TRACK " ++ two_digits number) (codes " AUDIO")
    (clear-append is_feed (codes "  TRACK ") (two_digits number) (clear_seen is_feed (codes "  TRACK ") refl) (two_clear number below))
    (clear_seen is_feed (codes " AUDIO") refl)

index_clear : (time : ℕ) → time < 450000 → IsClear is_feed (index_line time)
index_clear time below = clear-append is_feed (codes "    INDEX 01 ") (time_text time) (clear_seen is_feed (codes "    INDEX 01 ") refl) (time_clear time below)

pregap_clear : (pregap : ℕ) → pregap < 450000 → AreClear (pregap_lines pregap)
pregap_clear pregap below = by (pregap == 0)
  where
    by : (none : Bool) → AreClear (if none then [] else pregap_line pregap ∷ [])
    by true = tt
    by false = (clear-append is_feed (codes "    PREGAP ") (time_text pregap) (clear_seen is_feed (codes "    PREGAP ") refl) (time_clear pregap below), tt)

entry_clear : (number pregap time : ℕ) → number < 100 → pregap < 450000 → time < 450000 → AreClear (entry_lines number pregap time)
entry_clear number pregap time few short early = (number_clear number few, clear_lines (pregap_lines pregap) (index_line time ∷ []) (pregap_clear pregap short) (index_clear time early, tt))

later_clear : (number : ℕ) (starts : List ℕ) → number + length starts ≤ 100 → AreClear (later_lines number starts)
later_clear number [] few = tt
later_clear number (start ∷ starts) few = (
  file_clear (track_file number) (track_quotable number (omega arith)),
  clear_lines (entry_lines number 0 0) (later_lines (number + 1) starts) (entry_clear number 0 0 (omega arith) (omega arith) (omega arith)) (later_clear (number + 1) starts (omega arith)),
)

joined_clear : (number pregap least : ℕ) (starts : List ℕ) → number + length starts ≤ 100 → pregap < 450000 → AreFrom least starts → AreClear (joined_lines number pregap starts)
joined_clear number pregap least [] few short from = tt
joined_clear number pregap least (start ∷ starts) few short from =
    clear_lines (entry_lines number pregap start) (joined_lines (number + 1) 0 starts) (entry_clear number pregap start (omega arith) short from.1) (joined_clear (number + 1) 0 start starts (omega arith) (omega arith) from.2)

-- ---- both sheets

text_read : (name : List ℕ) (lines : List (List ℕ)) → AreClear (file_line name ∷ lines) → sheet_reading (text_of_lines (file_line name ∷ lines)) ≡ lines_reading 1 nothing_read (file_line name ∷ lines)
unfolding sheet_reading
text_read name lines clear = ap (λ text. lines_reading 1 nothing_read (lines_of text)) (no_mark name lines) ∙ ap (lines_reading 1 nothing_read) (lines_of_text (file_line name ∷ lines) clear)

-- the sheet with a file for each track is read as it was written
pub split_back : (pregap first : ℕ) (later : List ℕ) → length later ≤ 98 → pregap < 450000 → first < 450000
    → sheet_reading (text_of_lines (split_lines pregap (first ∷ later))) ≡ Ok (split_cue pregap first later)
split_back pregap first later few short early =
    let clear : AreClear (split_lines pregap (first ∷ later)) = (
      file_clear (track_file 1) (track_quotable 1 (omega arith)),
      clear_lines (entry_lines 1 pregap first) (later_lines 2 later) (entry_clear 1 pregap first (omega arith) short early) (later_clear 2 later (omega arith)),
    ) in
    text_read (track_file 1) (entry_lines 1 pregap first ++ later_lines 2 later) clear
    ∙ led_to _ _ _ _ (split_leads pregap first later few short early)
    ∙ ap (λ gap. Ok (split_cue gap first later)) (gap_read pregap)

-- and so is the sheet with one file
pub join_back : (name : List ℕ) (pregap start : ℕ) (starts : List ℕ) → IsQuotable name → length starts ≤ 98 → pregap < 450000 → AreFrom 0 (start ∷ starts)
    → sheet_reading (text_of_lines (join_lines name pregap (start ∷ starts))) ≡ Ok (join_cue name pregap (start ∷ starts))
join_back name pregap start starts may few short from =
    text_read name (joined_lines 1 pregap (start ∷ starts)) (file_clear name may, joined_clear 1 pregap 0 (start ∷ starts) (omega arith) short from)
    ∙ led_to _ _ _ _ (join_leads name pregap start starts may few short from)
    ∙ ap (λ gap. Ok (join_cue name gap (start ∷ starts))) (gap_read pregap)
