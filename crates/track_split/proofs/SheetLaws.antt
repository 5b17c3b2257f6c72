-- The sheets that are written of a disc, read back.
use Rattle.std.proofs.Common.{◌≡◌, ◌∙◌, ◌⊎◌, ℕ, zero, suc, ◌+◌, ◌-◌, ◌<◌, ◌≤◌, ◌/◌, ◌%◌, List, [], ◌∷◌, ◌++◌, length, map, Bool, true, false, Option, None, Some, Ok, refl, sym, ap, ap₂, inl, inr, arith, append_assoc, append-nil, length-append}
use Rattle.std.specs.Prelude.{◌==◌, not, nat_le, unwrap_or, if◌then◌else◌}
use Rattle.std.specs.Str.{IsAscii}
use Rattle.std.proofs.lemmas.Str.{IsUtf8-from_ascii, is_utf8-from_IsUtf8}
use Rattle.std.proofs.lemmas.Bool.Decides.{nat_tests}
use Rattle.cue_sheet.specs.Lines.{begun_with, lines_of, without_mark}
use Rattle.cue_sheet.specs.Reading.{Sheet, State, has_file, line_check, line_reading, lines_reading, nothing_read, sheet_end}
use Rattle.cue_sheet.specs.declared.sheet.CueTrack.{CueTrack}
use Rattle.track_split.specs.Sheets.{entry_lines, file_line, index_line, join_lines, joined_lines, later_lines, number_line, pregap_lines, split_lines, text_of_lines, track_file}
use Rattle.track_split.proofs.ClearLaws.{IsClear}
use Rattle.track_split.proofs.DigitLaws.{ones, tens}
use Rattle.track_split.proofs.EntryLaws.{IsQuotable, file_read, index_read, is_break, pregap_line, pregap_read, track_read}

-- ---- the lines of a text of lines

abbrev pub is_feed : ℕ → Bool
is_feed byte = byte == 10

-- each line is without a line feed
abbrev pub AreClear : List (List ℕ) → Type 0
AreClear [] = Unit {0}
AreClear (line ∷ lines) = IsClear is_feed line × AreClear lines

one_line : (line rest : List ℕ) → IsClear is_feed line → lines_of (line ++ 10 ∷ rest) ≡ line ∷ lines_of rest
unfolding lines_of
one_line [] rest clear = refl
one_line (byte ∷ line) rest clear = rw clear.0 (ap (begun_with byte) (one_line line rest clear.1))

no_text : lines_of [] ≡ []
unfolding lines_of
no_text = refl

pub lines_of_text : (lines : List (List ℕ)) → AreClear lines → lines_of (text_of_lines lines) ≡ lines
lines_of_text [] clear = no_text
lines_of_text (line ∷ lines) clear =
    ap lines_of (append_assoc line (10 ∷ []) (text_of_lines lines)) ∙ one_line line (text_of_lines lines) clear.0 ∙ ap (λ rest. line ∷ rest) (lines_of_text lines clear.1)

pub clear_lines : (front back : List (List ℕ)) → AreClear front → AreClear back → AreClear (front ++ back)
clear_lines [] back front_clear back_clear = back_clear
clear_lines (line ∷ front) back front_clear back_clear = (front_clear.0, clear_lines front back front_clear.1 back_clear)

pub no_mark : (name : List ℕ) (lines : List (List ℕ)) → without_mark (text_of_lines (file_line name ∷ lines)) ≡ text_of_lines (file_line name ∷ lines)
unfolding without_mark
no_mark name lines = refl

-- ---- lines that are read, one after another

-- the lines take what was read so far to what is read then
abbrev pub Reads : State → List (List ℕ) → State → Type 0
Reads state lines next = (line : ℕ) (others : List (List ℕ)) → (after : ℕ) × (lines_reading line state (lines ++ others) ≡ lines_reading after next others)

reads_none : (state : State) → Reads state [] state
reads_none state line others = (line, refl)

reads_one : (state next : State) (first : List ℕ) → line_reading state first ≡ Ok next → Reads state (first ∷ []) next
unfolding lines_reading
reads_one state next first read line others = (line + 1, rw read refl)

reads_twice : (state mid next : State) (front back : List (List ℕ)) → Reads state front mid → Reads mid back next → Reads state (front ++ back) next
reads_twice state mid next front back one two line others =
    let first = one line (back ++ others) in
    let second = two first.0 others in
    (second.0, ap (lines_reading line state) (append_assoc front back others) ∙ first.1 ∙ second.1)

-- ---- the lines of a track

abbrev pub pregap_after : Option ℕ → ℕ → Option ℕ
pregap_after before pregap = if pregap == 0 then before else Some pregap

-- what was read once a track's lines were
abbrev after_entry : State → ℕ → ℕ → ℕ → State
after_entry state number pregap time = record state {
  number = number;
  index = Some 1;
  time = time;
  tracks = state.tracks ++ record { file = length state.files - 1; index01 = time } ∷ [];
  pregap = pregap_after state.pregap pregap;
}

pregap_reads : (state : State) (pregap : ℕ) → pregap < 450000 → (pregap ≡ 0) ⊎ (state.number ≡ 1) × (length state.tracks ≡ 0) × (state.pregap ≡ None)
    → Reads state (pregap_lines pregap) record state { pregap = pregap_after state.pregap pregap }
pregap_reads state pregap below may = by (pregap == 0) refl
  where
    some : (pregap == 0) ≡ false → (state.number ≡ 1) × (length state.tracks ≡ 0) × (state.pregap ≡ None)
    some e = elim may [ inl none ↦ (let no : ⊥ = grind (arith, nat_tests) in absurd no) | inr first ↦ first ]

    by : (none : Bool) → (pregap == 0) ≡ none → Reads state (if none then [] else pregap_line pregap ∷ []) record state { pregap = (if none then state.pregap else Some pregap) }
    by true e = reads_none state
    by false e = let first = some e in reads_one state _ (pregap_line pregap) (pregap_read state pregap below first.0 first.1 first.2)

not_none : (number : ℕ) → 0 < number → not (number == 0) ≡ true
not_none number some = grind (arith, nat_tests)

entry_reads : (state : State) (number pregap time : ℕ) → number < 100 → pregap < 450000 → time < 450000 → has_file state ≡ true → number ≡ state.number + 1 → length state.tracks ≡ state.number
    → state.time ≤ time → (pregap ≡ 0) ⊎ (state.number ≡ 0) × (state.pregap ≡ None) → Reads state (entry_lines number pregap time) (after_entry state number pregap time)
entry_reads state number pregap time few short early has next complete low may =
    let begun : State = record state { number = number; index = None } in
    let said : State = record begun { pregap = pregap_after state.pregap pregap } in
    let first : (pregap ≡ 0) ⊎ (number ≡ 1) × (length state.tracks ≡ 0) × (state.pregap ≡ None) =
    elim may [ inl none ↦ inl none | inr one ↦ inr (omega (arith, one.0), omega (arith, one.0), one.1) ] in
    let one = reads_one state begun (number_line number) (track_read state number few has next complete) in
    let two = pregap_reads begun pregap short first in
    let three = reads_one said (after_entry state number pregap time) (index_line time) (index_read said time early (not_none number (omega arith)) refl low) in
    reads_twice state begun _ (number_line number ∷ []) (pregap_lines pregap ++ index_line time ∷ []) one (reads_twice begun said _ (pregap_lines pregap) (index_line time ∷ []) two three)

-- ---- the sheet that lines are

-- lines that leave these files, tracks and pregap, each track with its start
pub record Leads (state : State) (lines : List (List ℕ)) (names : List (List ℕ)) (begins : List CueTrack) (gap : Option ℕ) : Type 0 where
  pub next : State
  pub reads : Reads state lines next
  pub files : next.files ≡ names
  pub tracks : next.tracks ≡ begins
  pub complete : length next.tracks ≡ next.number
  pub some : 0 < next.number
  pub pregap : next.pregap ≡ gap

same_number : (a b : ℕ) → a ≡ b → (a == b) ≡ true
same_number a b same = grind (arith, nat_tests)

end_of : (state : State) → length state.tracks ≡ state.number → 0 < state.number → sheet_end state ≡ Ok record { files = state.files; tracks = state.tracks; pregap = unwrap_or state.pregap 0 }
unfolding sheet_end line_check
end_of state complete some = rw (not_none state.number some, same_number (length state.tracks) state.number complete) refl

at_end : (line : ℕ) (state : State) (sheet : Sheet) → sheet_end state ≡ Ok sheet → lines_reading line state [] ≡ Ok sheet
unfolding lines_reading
at_end line state sheet end = rw end refl

pub led_to : (lines files : List (List ℕ)) (tracks : List CueTrack) (pregap : Option ℕ) → Leads nothing_read lines files tracks pregap
    → lines_reading 1 nothing_read lines ≡ Ok record { files = files; tracks = tracks; pregap = unwrap_or pregap 0 }
led_to lines files tracks pregap leads =
    let all = leads.reads 1 [] in
    let end = at_end all.0 leads.next record { files = leads.next.files; tracks = leads.next.tracks; pregap = unwrap_or leads.next.pregap 0 } (end_of leads.next leads.complete leads.some) in
    let sheet : List (List ℕ) → List CueTrack → Option ℕ → Sheet = λ f t p. record { files = f; tracks = t; pregap = unwrap_or p 0 } in
    ap (lines_reading 1 nothing_read) (sym (append-nil lines)) ∙ all.1 ∙ end
    ∙ ap (λ f. Ok (sheet f leads.next.tracks leads.next.pregap)) leads.files ∙ ap (λ t. Ok (sheet files t leads.next.pregap)) leads.tracks ∙ ap (λ p. Ok (sheet files tracks p)) leads.pregap

-- ---- one file for all tracks

-- starts that rise from one on, all of them below 100 minutes
abbrev pub AreFrom : ℕ → List ℕ → Type 0
AreFrom least [] = Unit {0}
AreFrom least (start ∷ starts) = (least ≤ start) × (start < 450000) × AreFrom start starts

-- tracks in the first file that begin at these times
abbrev pub first_file_tracks : List ℕ → List CueTrack
first_file_tracks starts = map (λ start. record { file = 0; index01 = start }) starts

has_some : (state : State) → 0 < length state.files → has_file state ≡ true
has_some state some = not_none (length state.files) some

joined_leads : (state : State) (number pregap start : ℕ) (starts : List ℕ) → number + length starts < 100 → pregap < 450000 → AreFrom state.time (start ∷ starts) → length state.files ≡ 1 → number ≡ state.number + 1
    → length state.tracks ≡ state.number → (pregap ≡ 0) ⊎ (state.number ≡ 0) × (state.pregap ≡ None)
    → Leads state (joined_lines number pregap (start ∷ starts)) state.files (state.tracks ++ first_file_tracks (start ∷ starts)) (pregap_after state.pregap pregap)
joined_leads state number pregap start [] few short from one next complete may =
    let read = entry_reads state number pregap start (omega arith) short from.1 (has_some state (omega arith)) next complete from.0 may in
    let alone : length state.files - 1 ≡ 0 = omega arith in
    record {
      next = after_entry state number pregap start;
      reads = reads_twice state _ _ (entry_lines number pregap start) [] read (reads_none (after_entry state number pregap start));
      files = refl;
      tracks = ap (λ file. state.tracks ++ record { file = file; index01 = start } ∷ []) alone;
      complete = length-append state.tracks (record { file = length state.files - 1; index01 = start } ∷ []) ∙ omega arith;
      some = omega arith;
      pregap = refl;
    }
joined_leads state number pregap start (second ∷ starts) few short from one next complete may =
    let read = entry_reads state number pregap start (omega arith) short from.1 (has_some state (omega arith)) next complete from.0 may in
    let after : State = after_entry state number pregap start in
    let alone : length state.files - 1 ≡ 0 = omega arith in
    let rest = joined_leads after (number + 1) 0 second starts (omega arith) (omega arith) from.2 one (omega arith)
    (length-append state.tracks (record { file = length state.files - 1; index01 = start } ∷ []) ∙ omega arith) (inl refl) in
    record {
      next = rest.next;
      reads = reads_twice state after rest.next (entry_lines number pregap start) (joined_lines (number + 1) 0 (second ∷ starts)) read rest.reads;
      files = rest.files;
      tracks = rest.tracks ∙ append_assoc state.tracks _ (first_file_tracks (second ∷ starts)) ∙ ap (λ file. state.tracks ++ record { file = file; index01 = start } ∷ first_file_tracks (second ∷ starts)) alone;
      complete = rest.complete;
      some = rest.some;
      pregap = rest.pregap;
    }

-- ---- a file for each track

-- the files of the tracks from the one with this number on
abbrev pub own_files : ℕ → List ℕ → List (List ℕ)
own_files number [] = []
own_files number (start ∷ starts) = track_file number ∷ own_files (number + 1) starts

-- tracks that begin with the files from the one on before which there are so many
abbrev pub own_tracks : ℕ → List ℕ → List CueTrack
own_tracks file [] = []
own_tracks file (start ∷ starts) = record { file = file; index01 = 0 } ∷ own_tracks (file + 1) starts

-- a track's file may stand in quote marks
digit_ascii : (digit : ℕ) → digit < 10 → 48 + digit < 128
digit_ascii digit below = omega arith

track_ascii : (number : ℕ) → number < 100 → IsAscii (track_file number)
track_ascii number below = ascii_each (track_file number) (refl, (refl, (refl, (refl, (refl, (under _ (digit_ascii (number / 10) (omega arith)), (under _ (digit_ascii (number % 10) (omega arith)), (refl, (refl, (refl, (refl, tt)))))))))))
  where
    under : (byte : ℕ) → byte < 128 → nat_le 128 byte ≡ false
    under byte low = grind (arith, nat_tests)

    ascii_each : (text : List ℕ) → IsClear (nat_le 128) text → IsAscii text
    ascii_each [] clear i = omega arith
    ascii_each (byte ∷ text) clear zero = grind (arith, nat_tests, clear.0)
    ascii_each (byte ∷ text) clear (suc i) = ascii_each text clear.1 i

not_break : (digit : ℕ) → digit < 10 → is_break (48 + digit) ≡ false
not_break digit below = grind (arith, nat_tests)

pub track_quotable : (number : ℕ) → number < 100 → IsQuotable (track_file number)
track_quotable number below =
    let first = tens number below in
    let second = ones number in
    record {
      some = omega arith;
      quotes = (refl, (refl, (refl, (refl, (refl, (first.not_quote, (second.not_quote, (refl, (refl, (refl, (refl, tt)))))))))));
      breaks = (refl, (refl, (refl, (refl, (refl, (not_break (number / 10) (omega arith), (not_break (number % 10) (omega arith), (refl, (refl, (refl, (refl, tt)))))))))));
      text = is_utf8-from_IsUtf8 (track_file number) (IsUtf8-from_ascii (track_file number) (track_ascii number below));
    }

later_leads : (state : State) (number : ℕ) (starts : List ℕ) → number + length starts ≤ 100 → number ≡ state.number + 1 → length state.tracks ≡ state.number → length state.files ≡ state.number → 0 < state.number
    → Leads state (later_lines number starts) (state.files ++ own_files number starts) (state.tracks ++ own_tracks state.number starts) state.pregap
later_leads state number [] few next complete each some = record {
  next = state;
  reads = reads_none state;
  files = sym (append-nil state.files);
  tracks = sym (append-nil state.tracks);
  complete = complete;
  some = some;
  pregap = refl;
}
later_leads state number (start ∷ starts) few next complete each some =
    let name = track_file number in
    let named : State = record state { files = state.files ++ name ∷ []; time = 0 } in
    let more : length named.files ≡ length state.files + 1 = length-append state.files (name ∷ []) in
    let one = reads_one state named (file_line name) (file_read state name (track_quotable number (omega arith)) (omega arith)) in
    let two = entry_reads named number 0 0 (omega arith) (omega arith) (omega arith) (has_some named (omega arith)) next complete (omega arith) (inl refl) in
    let after : State = after_entry named number 0 0 in
    let more_tracks : length after.tracks ≡ length state.tracks + 1 = length-append state.tracks (record { file = length named.files - 1; index01 = 0 } ∷ []) in
    let rest = later_leads after (number + 1) starts (omega arith) refl (omega arith) (omega arith) (omega arith) in
    let last : length named.files - 1 ≡ state.number = omega arith in
    record {
      next = rest.next;
      reads = reads_twice state named rest.next (file_line name ∷ []) (entry_lines number 0 0 ++ later_lines (number + 1) starts) one
          (reads_twice named after rest.next (entry_lines number 0 0) (later_lines (number + 1) starts) two rest.reads);
      files = rest.files ∙ append_assoc state.files (name ∷ []) (own_files (number + 1) starts);
      tracks = rest.tracks ∙ append_assoc state.tracks _ (own_tracks number starts)
          ∙ ap₂ (λ file other. state.tracks ++ record { file = file; index01 = 0 } ∷ own_tracks other starts) last next;
      complete = rest.complete;
      some = rest.some;
      pregap = rest.pregap;
    }

-- ---- both sheets, read

-- what is read of the sheet of a disc in a file for each track, of which the first track begins here
abbrev pub split_cue : ℕ → ℕ → List ℕ → Sheet
split_cue pregap first later = record { files = track_file 1 ∷ own_files 2 later; tracks = record { file = 0; index01 = first } ∷ own_tracks 1 later; pregap = pregap }

-- what is read of the sheet of a disc in one file
abbrev pub join_cue : List ℕ → ℕ → List ℕ → Sheet
join_cue name pregap starts = record { files = name ∷ []; tracks = first_file_tracks starts; pregap = pregap }

pub gap_read : (pregap : ℕ) → unwrap_or (pregap_after None pregap) 0 ≡ pregap
gap_read pregap = by (pregap == 0) refl
  where
    by : (none : Bool) → (pregap == 0) ≡ none → unwrap_or (if none then None else Some pregap) 0 ≡ pregap
    by true e = let is : pregap ≡ 0 = grind (arith, nat_tests) in sym is
    by false e = refl

pub split_leads : (pregap first : ℕ) (later : List ℕ) → length later ≤ 98 → pregap < 450000 → first < 450000
    → Leads nothing_read (split_lines pregap (first ∷ later)) (track_file 1 ∷ own_files 2 later) (record { file = 0; index01 = first } ∷ own_tracks 1 later) (pregap_after None pregap)
split_leads pregap first later few short early =
    let name = track_file 1 in
    let named : State = record nothing_read { files = name ∷ []; time = 0 } in
    let one = reads_one nothing_read named (file_line name) (file_read nothing_read name (track_quotable 1 (omega arith)) (omega arith)) in
    let two = entry_reads named 1 pregap first (omega arith) short early refl refl refl (omega arith) (inr (refl, refl)) in
    let after : State = after_entry named 1 pregap first in
    let rest = later_leads after 2 later (omega arith) refl refl refl (omega arith) in
    record {
      next = rest.next;
      reads = reads_twice nothing_read named rest.next (file_line name ∷ []) (entry_lines 1 pregap first ++ later_lines 2 later) one
          (reads_twice named after rest.next (entry_lines 1 pregap first) (later_lines 2 later) two rest.reads);
      files = rest.files;
      tracks = rest.tracks;
      complete = rest.complete;
      some = rest.some;
      pregap = rest.pregap;
    }

pub join_leads : (name : List ℕ) (pregap start : ℕ) (starts : List ℕ) → IsQuotable name → length starts ≤ 98 → pregap < 450000 → AreFrom 0 (start ∷ starts)
    → Leads nothing_read (join_lines name pregap (start ∷ starts)) (name ∷ []) (first_file_tracks (start ∷ starts)) (pregap_after None pregap)
join_leads name pregap start starts may few short from =
    let named : State = record nothing_read { files = name ∷ []; time = 0 } in
    let one = reads_one nothing_read named (file_line name) (file_read nothing_read name may (omega arith)) in
    let rest = joined_leads named 1 pregap start starts (omega arith) short from refl refl refl (inr (refl, refl)) in
    record {
      next = rest.next;
      reads = reads_twice nothing_read named rest.next (file_line name ∷ []) (joined_lines 1 pregap (start ∷ starts)) one rest.reads;
      files = rest.files;
      tracks = rest.tracks;
      complete = rest.complete;
      some = rest.some;
      pregap = rest.pregap;
    }
