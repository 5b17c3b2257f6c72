-- The lines of a sheet, one after the other.
use Rattle.std.proofs.Common.{◌≡◌, ℕ, ◌+◌, List, [], ◌∷◌, length, arith, Ok, Err, refl, ◌∙◌}
use Rattle.cue_sheet.specs.declared.fail.CueKind.{CueKind}
use Rattle.cue_sheet.specs.Lines.{lines_of, without_mark}
use Rattle.cue_sheet.specs.Reading.{State, nothing_read, sheet_end, after_line, line_reading, lines_reading, sheet_reading}

no_lines : lines_of [] ≡ []
unfolding lines_of
no_lines = refl

-- a line that is read
pub next_line : (line : ℕ) (state next : State) (first : List ℕ) (text later : List ℕ) → lines_of text ≡ first ∷ lines_of later → line_reading state first ≡ Ok next
    → lines_reading line state (lines_of text) ≡ lines_reading (line + 1) next (lines_of later)
unfolding lines_reading
next_line line state next first text later split e = rw (split, e) refl

-- a line that is refused
pub refused_line : (line : ℕ) (state : State) (kind : CueKind) (first : List ℕ) (text later : List ℕ) → lines_of text ≡ first ∷ lines_of later → line_reading state first ≡ Err kind
    → lines_reading line state (lines_of text) ≡ Err record { line = line; kind = kind }
unfolding lines_reading
refused_line line state kind first text later split e = rw (split, e) refl

pub sheet_read : (text : List ℕ) → sheet_reading text ≡ lines_reading 1 nothing_read (lines_of (without_mark text))
unfolding sheet_reading
sheet_read text = refl

-- the end of a sheet, when nothing is left
pub at_end : (text rest : List ℕ) (line : ℕ) (state : State) → length rest ≡ 0 → lines_reading 1 nothing_read (lines_of (without_mark text)) ≡ lines_reading line state (lines_of rest)
    → sheet_reading text ≡ after_line 0 (sheet_end state) Ok
unfolding lines_reading
at_end text [] line state none e = sheet_read text ∙ e ∙ rw no_lines refl
at_end text (byte ∷ rest) line state none e = absurd (omega arith)
