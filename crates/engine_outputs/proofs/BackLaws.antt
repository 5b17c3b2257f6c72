-- A disc that was written in its tracks, or in one file, is read as the disc that it was.
use Rattle.std.proofs.Common.{◌≡◌, ◌∙◌, ℕ, suc, ◌+◌, ◌-◌, ◌*◌, ◌<◌, ◌≤◌, List, [], ◌∷◌, ◌++◌, length, map, drop, get_or, Bool, true, false, cond, ◌||◌, Some, Ok, refl, sym, ap, subst, arith, append_assoc, append-nil, length-append}
use Rattle.std.specs.Prelude.{◌==◌, All, AllPairs, codes, nat_le, nat_eq, slice_index, IsUtf8}
use Rattle.std.specs.List.Sorted.{IsStrictlyIncreasing}
use Rattle.std.proofs.lemmas.List.Folds.{list_any-append}
use Rattle.std.proofs.lemmas.Str.{is_utf8-from_IsUtf8}
use Rattle.disc_ids.proofs.PlaceLaws.{start_below}
use Rattle.std.specs.List.{list_any, range_with_len}
use Rattle.std.specs.FinMap.{get}
use Rattle.std.specs.Str.{str_eq_ignore_ascii_case}
use Rattle.std.proofs.lemmas.Bool.Decides.{nat_tests}
use Rattle.std.proofs.lemmas.List.{drop_at}
use Rattle.std.proofs.lemmas.List.Elements.{All-cons, All-nil}
use Rattle.std.proofs.lemmas.List.FromFn.{get_or-map-range_with_len, length-map-range_with_len}
use Rattle.rip_outside.specs.Files.{Files}
use Rattle.rip_outside.specs.Outputs.{after_outputs}
use Rattle.cue_sheet.specs.Reading.{Sheet, sheet_reading}
use Rattle.disc_toc.specs.Joined.{layout_reading}
use Rattle.disc_toc.specs.Layout.{IsLayout}
use Rattle.wav_frames.specs.Opening.{IsPlain}
use Rattle.wav_frames.specs.Wav.{wav_bytes}
use Rattle.rip_inputs.specs.Opening.{IsReadAs, Opened, behind, disc_sheet, folder_of, is_sheet, is_slash, name_behind, sheet_opened, text_opened, wavs_opened}
use Rattle.rip_inputs.proofs.RipLaws.{rip_read}
use Rattle.rip_basics.specs.FileNames.{ends_in_slash}
use Rattle.rip_words.specs.FileNames.{breaks_quotes, is_quotable, name_in_folder}
use Rattle.track_split.specs.Cuts.{cut_words, piece_words}
use Rattle.track_split.specs.Sheets.{entry_lines, file_line, join_lines, join_text, joined_lines, later_lines, split_lines, split_text, text_of_lines, track_file}
use Rattle.track_split.specs.Tracks.{join_names, join_outputs, split_names, split_outputs}
use Rattle.track_split.proofs.BackLaws.{join_back, split_back}
use Rattle.track_split.proofs.ClearLaws.{clear_seen, clear_weaker}
use Rattle.track_split.proofs.CutPlaceLaws.{place_within}
use Rattle.track_split.proofs.EntryLaws.{IsQuotable, is_break}
use Rattle.track_split.proofs.LayoutLaws.{cut_layout, join_layout, piece_length, pieces_joined, tail_rises}
use Rattle.track_split.proofs.NameLaws.{join_about, join_distinct, split_about, split_distinct}
use Rattle.track_split.proofs.SheetLaws.{AreFrom, join_cue, own_files, split_cue}
use Rattle.track_split.proofs.WritingLaws.{text-append}
use Rattle.engine_outputs.proofs.StandLaws.{IsApart, names_apart, sheet_stands, wavs_stand}

-- ---- the folder of a sheet

-- a folder that ends in "/" has one, whatever stands behind it
slash_within : (folder name : List ℕ) → ends_in_slash folder ≡ true → list_any is_slash (folder ++ name) ≡ true
slash_within [] name ends = cc
slash_within (byte ∷ []) name ends = (let first : (byte == 47) ≡ true = ends in rw first refl)
slash_within (byte ∷ next ∷ rest) name ends =
    let last : length (byte ∷ next ∷ rest) - 1 ≡ suc (length (next ∷ rest) - 1) = omega arith in
    let later : ends_in_slash (next ∷ rest) ≡ true = sym (ap (λ n. slice_index (byte ∷ next ∷ rest) n == 47) last) ∙ ends in
    ap (λ any. is_slash byte || any) (slash_within (next ∷ rest) name later) ∙ either (is_slash byte)
  where
    either : (b : Bool) → (b || true) ≡ true
    either true = refl
    either false = refl

no_folder : (name : List ℕ) → list_any is_slash name ≡ false → folder_of name ≡ []
unfolding folder_of
no_folder [] none = refl
no_folder (byte ∷ rest) none = ap (λ any. cond any (byte ∷ folder_of rest) []) none

-- it is the folder of a name in it
folder_back : (folder name : List ℕ) → ends_in_slash folder ≡ true → list_any is_slash name ≡ false → folder_of (folder ++ name) ≡ folder
unfolding folder_of
folder_back [] name ends none = cc
folder_back (byte ∷ []) name ends none = ap (λ any. cond any (byte ∷ folder_of name) []) (slash_within (byte ∷ []) name ends) ∙ ap (λ rest. byte ∷ rest) (no_folder name none)
folder_back (byte ∷ next ∷ rest) name ends none =
    let last : length (byte ∷ next ∷ rest) - 1 ≡ suc (length (next ∷ rest) - 1) = omega arith in
    let later : ends_in_slash (next ∷ rest) ≡ true = sym (ap (λ n. slice_index (byte ∷ next ∷ rest) n == 47) last) ∙ ends in
    ap (λ any. cond any (byte ∷ folder_of ((next ∷ rest) ++ name)) []) (slash_within (byte ∷ next ∷ rest) name ends) ∙ ap (λ rest. byte ∷ rest) (folder_back (next ∷ rest) name later none)

-- ---- the sheet

sheet_named : (front : List ℕ) → is_sheet (front ++ codes ".cue") ≡ true
sheet_named front =
    let size : length (front ++ codes ".cue") - 4 ≡ length front = omega (arith, length-append front (codes ".cue")) in
    let tail : drop (length (front ++ codes ".cue") - 4) (front ++ codes ".cue") ≡ codes ".cue" = ap (λ n. drop n (front ++ codes ".cue")) size ∙ drop_at front (codes ".cue") (length front) refl in
    ap (λ end. str_eq_ignore_ascii_case end (codes ".cue")) tail

-- a sheet that stands is read
sheet_found : (name text : List ℕ) (files : Files) (sheet : Sheet) → is_sheet name ≡ true → get files name ≡ Some text → length text ≤ 1048576 → sheet_reading text ≡ Ok sheet
    → disc_sheet name files ≡ Ok (behind (folder_of name) sheet)
unfolding disc_sheet sheet_opened text_opened
sheet_found name text files sheet is held short reads =
    let fits : nat_le (length text) 1048576 ≡ true = grind (arith, nat_tests) in
    rw (is, held, fits, reads) refl

-- the files' names say nothing of the layout
layout_behind : (folder : List ℕ) (sheet : Sheet) (words : List ℕ) → layout_reading (behind folder sheet) words ≡ layout_reading sheet words
unfolding layout_reading
layout_behind folder sheet words = refl

-- ---- how long the sheet of the tracks is

-- lines before others
lines_size : (front back : List (List ℕ)) (n : ℕ) → length (text_of_lines front) ≡ n → length (text_of_lines (front ++ back)) ≡ n + length (text_of_lines back)
lines_size front back n is = ap length (text-append front back) ∙ length-append (text_of_lines front) (text_of_lines back) ∙ ap (λ k. k + length (text_of_lines back)) is

later_size : (number : ℕ) (starts : List ℕ) → length (text_of_lines (later_lines number starts)) ≡ 63 * length starts
later_size number [] = refl
later_size number (start ∷ starts) =
    let step = lines_size (file_line (track_file number) ∷ entry_lines number 0 0) (later_lines (number + 1) starts) 63 refl in
    omega (arith, later_size (number + 1) starts)

split_size : (pregap first : ℕ) (later : List ℕ) → length (text_of_lines (split_lines pregap (first ∷ later))) ≤ 83 + 63 * length later
split_size pregap first later = by (pregap == 0) refl
  where
    by : (none : Bool) → (pregap == 0) ≡ none → length (text_of_lines (split_lines pregap (first ∷ later))) ≤ 83 + 63 * length later
    by true is =
        let step = lines_size (file_line (track_file 1) ∷ entry_lines 1 pregap first) (later_lines 2 later) 63 (rw is refl) in
        omega (arith, later_size 2 later)
    by false is =
        let step = lines_size (file_line (track_file 1) ∷ entry_lines 1 pregap first) (later_lines 2 later) 83 (rw is refl) in
        omega (arith, later_size 2 later)

-- ---- the files of the tracks

files_behind : (folder : List ℕ) (i : ℕ) (starts : List ℕ) → map (name_behind folder) (own_files (i + 1) starts) ≡ map (λ k. folder ++ track_file (k + 1)) (range_with_len i (length starts))
unfolding name_behind
files_behind folder i [] = refl
files_behind folder i (start ∷ starts) = ap (λ names. (folder ++ track_file (i + 1)) ∷ names) (files_behind folder (i + 1) starts)

-- ---- one file

parts_back : (to : List ℕ) → folder_of (to ++ codes ".cue") ++ name_in_folder to ≡ to
unfolding folder_of name_in_folder
parts_back [] = refl
parts_back (byte ∷ rest) = by (list_any is_slash (byte ∷ rest)) refl (parts_back rest)
  where
    by : (any : Bool) → list_any is_slash (byte ∷ rest) ≡ any → folder_of (rest ++ codes ".cue") ++ name_in_folder rest ≡ rest
        → cond (list_any is_slash ((byte ∷ rest) ++ codes ".cue")) (byte ∷ folder_of (rest ++ codes ".cue")) [] ++ cond (list_any is_slash (byte ∷ rest)) (name_in_folder rest) (byte ∷ rest) ≡ byte ∷ rest
    by true is later = rw (list_any-append is_slash (byte ∷ rest) (codes ".cue"), is) (ap (λ name. byte ∷ name) later)
    by false is later = rw (list_any-append is_slash (byte ∷ rest) (codes ".cue"), is) refl

-- the name of a file in its folder has no "/"
no_slash_left : (to : List ℕ) → list_any is_slash (name_in_folder to) ≡ false
unfolding name_in_folder
no_slash_left [] = refl
no_slash_left (byte ∷ rest) = by (list_any is_slash (byte ∷ rest)) refl (no_slash_left rest)
  where
    by : (any : Bool) → list_any is_slash (byte ∷ rest) ≡ any → list_any is_slash (name_in_folder rest) ≡ false → list_any is_slash (cond (list_any is_slash (byte ∷ rest)) (name_in_folder rest) (byte ∷ rest)) ≡ false
    by true is later = rw is later
    by false is later = subst (λ any. list_any is_slash (cond any (name_in_folder rest) (byte ∷ rest)) ≡ false) (sym is) is

behind_folder : (folder name : List ℕ) → list_any is_slash name ≡ false → name_behind folder name ≡ folder ++ name
unfolding name_behind
behind_folder folder [] none = refl
behind_folder folder (byte ∷ rest) none =
    let first : nat_eq 47 byte ≡ false = grind (arith, nat_tests) in
    rw first refl

-- behind the sheet's folder it is the file again
name_back : (to : List ℕ) → name_behind (folder_of (to ++ codes ".cue")) (name_in_folder to) ≡ to
name_back to = behind_folder (folder_of (to ++ codes ".cue")) (name_in_folder to) (no_slash_left to) ∙ parts_back to

quotable : (name : List ℕ) → is_quotable name ≡ true → IsUtf8 name → IsQuotable name
quotable name may text =
    let some : 0 < length name = grind (arith, nat_tests) in
    let none : list_any breaks_quotes name ≡ false = grind (arith, nat_tests) in
    let clear = clear_seen breaks_quotes name none in
    record {
      some = some;
      quotes = clear_weaker breaks_quotes (λ byte. byte == 34) name (λ byte e. grind (arith, nat_tests)) clear;
      breaks = clear_weaker breaks_quotes is_break name (λ byte e. grind (arith, nat_tests)) clear;
      text = is_utf8-from_IsUtf8 name text;
    }

rising_from : (least : ℕ) (starts : List ℕ) → IsStrictlyIncreasing starts → ((k : ℕ) → k < length starts → get_or starts k 0 < 450000) → (0 < length starts → least ≤ get_or starts 0 0) → AreFrom least starts
rising_from least [] rising below from = tt
rising_from least (start ∷ starts) rising below from =
    let next = tail_rises start starts rising in
    (from (omega arith), below 0 (omega arith), rising_from start starts next (λ k more. below (suc k) (omega arith)) (λ some. (let first : start < get_or starts 0 0 = rising 0 (omega arith) in omega arith)))

joined_size : (number : ℕ) (starts : List ℕ) → length (text_of_lines (joined_lines number 0 starts)) ≡ 39 * length starts
joined_size number [] = refl
joined_size number (start ∷ starts) =
    let step = lines_size (entry_lines number 0 start) (joined_lines (number + 1) 0 starts) 39 refl in
    omega (arith, joined_size (number + 1) starts)

entries_size : (pregap start : ℕ) (starts : List ℕ) → length (text_of_lines (joined_lines 1 pregap (start ∷ starts))) ≤ 59 + 39 * length starts
entries_size pregap start starts = by (pregap == 0) refl
  where
    by : (none : Bool) → (pregap == 0) ≡ none → length (text_of_lines (joined_lines 1 pregap (start ∷ starts))) ≤ 59 + 39 * length starts
    by true is =
        let step = lines_size (entry_lines 1 pregap start) (joined_lines 2 0 starts) 39 (rw is refl) in
        omega (arith, joined_size 2 starts)
    by false is =
        let step = lines_size (entry_lines 1 pregap start) (joined_lines 2 0 starts) 59 (rw is refl) in
        omega (arith, joined_size 2 starts)

join_size : (name : List ℕ) (pregap start : ℕ) (starts : List ℕ) → length (text_of_lines (join_lines name pregap (start ∷ starts))) ≤ 72 + length name + 39 * length starts
join_size name pregap start starts =
    let one = length-append (file_line name ++ 10 ∷ []) (text_of_lines (joined_lines 1 pregap (start ∷ starts))) in
    let two = length-append (file_line name) (10 ∷ []) in
    let three = length-append name (codes "\" WAVE") in
    omega (arith, entries_size pregap start starts)

-- ---- both

module _ (rip : Opened) (valid : IsLayout rip.toc.pregap rip.toc.starts rip.toc.sectors) (whole : length rip.words ≡ 1176 * rip.toc.sectors) where
  start_early : (k : ℕ) → k < length rip.toc.starts → get_or rip.toc.starts k 0 < 450000
  start_early k below = omega (arith, start_below rip.toc.pregap rip.toc.starts rip.toc.sectors valid k below, valid.fits)

  pieces_plain : All (λ w. IsPlain w (wav_bytes w)) (cut_words rip.toc rip.words)
  pieces_plain k d below =
      let size = length-map-range_with_len (piece_words rip.toc rip.words) 0 (length rip.toc.starts) in
      let one = get_or-map-range_with_len (piece_words rip.toc rip.words) 0 (length rip.toc.starts) k k d (omega arith) (omega arith) in
      let long = piece_length rip.toc valid rip.words whole k (omega arith) in
      subst (λ w. IsPlain w (wav_bytes w)) (sym one) record { file = refl; even = omega arith; few = omega (arith, valid.fits, place_within rip.toc valid (k + 1)) }

  -- the sheet of the tracks in the folder is read as the disc
  pub split_read : (folder : List ℕ) (files : Files) → ends_in_slash folder ≡ true → IsReadAs rip (folder ++ codes "disc.cue") (after_outputs (split_outputs folder rip.toc rip.words) files)
  split_read folder files ends = by rip.toc.starts refl
    where
      names : List (List ℕ)
      names = map (λ i. folder ++ track_file (i + 1)) (range_with_len 0 (length rip.toc.starts))

      pieces : List (List ℕ)
      pieces = cut_words rip.toc rip.words

      sheet : List ℕ
      sheet = folder ++ codes "disc.cue"

      after : Files
      after = after_outputs (split_outputs folder rip.toc rip.words) files

      each : length (map (λ i. folder ++ track_file (i + 1)) (range_with_len 0 (length rip.toc.starts))) ≡ length (cut_words rip.toc rip.words)
      each = length-map-range_with_len (λ i. folder ++ track_file (i + 1)) 0 (length rip.toc.starts) ∙ sym (length-map-range_with_len (piece_words rip.toc rip.words) 0 (length rip.toc.starts))

      apart : AllPairs IsApart (split_names folder (length rip.toc.starts))
      apart = names_apart (split_names folder (length rip.toc.starts)) (length folder + 8) (split_about folder (length rip.toc.starts)) (split_distinct folder (length rip.toc.starts) valid.few)

      by : (starts : List ℕ) → rip.toc.starts ≡ starts → IsReadAs rip (folder ++ codes "disc.cue") (after_outputs (split_outputs folder rip.toc rip.words) files)
      by [] is = absurd (omega (arith, valid.some, ap length is))
      by (first ∷ later) is =
          let cue : Sheet = split_cue rip.toc.pregap first later in
          let many = ap length is in
          let early : first < 450000 = omega (arith, start_early 0 valid.some, ap (λ s. get_or s 0 0) is) in
          let text : split_text rip.toc ≡ text_of_lines (split_lines rip.toc.pregap (first ∷ later)) = ap (λ s. text_of_lines (split_lines rip.toc.pregap s)) is in
          let reads : sheet_reading (split_text rip.toc) ≡ Ok cue = ap sheet_reading text ∙ split_back rip.toc.pregap first later (omega (arith, valid.few)) (omega (arith, valid.fits)) early in
          let short : length (split_text rip.toc) ≤ 1048576 = omega (arith, ap length text, split_size rip.toc.pregap first later, valid.few) in
          let held : get after sheet ≡ Some (split_text rip.toc) = sheet_stands names pieces sheet (split_text rip.toc) files each in
          let named : is_sheet sheet ≡ true = ap is_sheet (sym (append_assoc folder (codes "disc") (codes ".cue"))) ∙ sheet_named (folder ++ codes "disc") in
          let found : disc_sheet sheet after ≡ Ok (behind folder cue) = sheet_found sheet (split_text rip.toc) after cue named held short reads ∙ ap (λ f. Ok (behind f cue)) (folder_back folder (codes "disc.cue") ends refl) in
          let files_are : map (name_behind folder) cue.files ≡ names = files_behind folder 0 (first ∷ later) ∙ ap (λ s. map (λ i. folder ++ track_file (i + 1)) (range_with_len 0 (length s))) (sym is) in
          let wavs : wavs_opened (map (name_behind folder) cue.files) after ≡ Ok pieces = ap (λ n. wavs_opened n after) files_are ∙ wavs_stand names pieces sheet (split_text rip.toc) files each apart pieces_plain in
          let layout = layout_behind folder cue (map length pieces) ∙ cut_layout rip.toc valid rip.words whole first later is in
          record { again = _; reads = rip_read sheet after (behind folder cue) pieces rip.toc found wavs layout; layout = refl; words = pieces_joined rip.toc valid rip.words whole }

  -- and so is the sheet of the one file
  pub join_read : (to : List ℕ) (files : Files) → is_quotable (name_in_folder to) ≡ true → IsUtf8 (name_in_folder to) → length (name_in_folder to) ≤ 1000000
      → IsReadAs rip (to ++ codes ".cue") (after_outputs (join_outputs to (name_in_folder to) rip.toc rip.words) files)
  join_read to files may utf8 few = by rip.toc.starts refl
    where
      name : List ℕ
      name = name_in_folder to

      sheet : List ℕ
      sheet = to ++ codes ".cue"

      after : Files
      after = after_outputs (join_outputs to (name_in_folder to) rip.toc rip.words) files

      apart : AllPairs IsApart (join_names to)
      apart = names_apart (join_names to) (length to) (join_about to) (join_distinct to)

      plain : All (λ w. IsPlain w (wav_bytes w)) (rip.words ∷ [])
      plain = All-cons (λ w. IsPlain w (wav_bytes w)) rip.words [] record { file = refl; even = omega arith; few = omega (arith, valid.fits) } (All-nil (λ w. IsPlain w (wav_bytes w)))

      by : (starts : List ℕ) → rip.toc.starts ≡ starts → IsReadAs rip (to ++ codes ".cue") (after_outputs (join_outputs to (name_in_folder to) rip.toc rip.words) files)
      by [] is = absurd (omega (arith, valid.some, ap length is))
      by (start ∷ starts) is =
          let cue : Sheet = join_cue name rip.toc.pregap rip.toc.starts in
          let many = ap length is in
          let rising : AreFrom 0 (start ∷ starts) = subst (AreFrom 0) is (rising_from 0 rip.toc.starts valid.rising start_early (λ some. omega arith)) in
          let text : join_text name rip.toc ≡ text_of_lines (join_lines name rip.toc.pregap (start ∷ starts)) = ap (λ s. text_of_lines (join_lines name rip.toc.pregap s)) is in
          let back = join_back name rip.toc.pregap start starts (quotable name may utf8) (omega (arith, valid.few)) (omega (arith, valid.fits)) rising in
          let reads : sheet_reading (join_text name rip.toc) ≡ Ok cue = ap sheet_reading text ∙ back ∙ ap (λ s. Ok (join_cue name rip.toc.pregap s)) (sym is) in
          let short : length (join_text name rip.toc) ≤ 1048576 = omega (arith, ap length text, join_size name rip.toc.pregap start starts, valid.few) in
          let held : get after sheet ≡ Some (join_text name rip.toc) = sheet_stands (to ∷ []) (rip.words ∷ []) sheet (join_text name rip.toc) files refl in
          let found : disc_sheet sheet after ≡ Ok (behind (folder_of sheet) cue) = sheet_found sheet (join_text name rip.toc) after cue (sheet_named to) held short reads in
          let files_are : map (name_behind (folder_of sheet)) cue.files ≡ to ∷ [] = ap (λ n. n ∷ []) (name_back to) in
          let wavs : wavs_opened (map (name_behind (folder_of sheet)) cue.files) after ≡ Ok (rip.words ∷ []) = ap (λ n. wavs_opened n after) files_are ∙ wavs_stand (to ∷ []) (rip.words ∷ []) sheet (join_text name rip.toc) files refl apart plain in
          let layout = layout_behind (folder_of sheet) cue (length rip.words ∷ []) ∙ ap (λ n. layout_reading cue (n ∷ [])) whole ∙ join_layout name rip.toc valid in
          record { again = _; reads = rip_read sheet after (behind (folder_of sheet) cue) (rip.words ∷ []) rip.toc found wavs layout; layout = refl; words = append-nil rip.words }
