-- The sheets that are written of a disc, with the files that are written, give the disc's layout and its words.
use Rattle.std.proofs.Common.{◌≡◌, ◌∙◌, ℕ, zero, suc, ◌+◌, ◌-◌, ◌*◌, ◌%◌, ◌<◌, ◌≤◌, List, [], ◌∷◌, ◌++◌, length, map, take, drop, get_or, Bool, true, false, Option, None, Some, Ok, refl, sym, ap, ap₂, subst, arith, append-nil, append_assoc}
use Rattle.std.specs.Prelude.{◌==◌, nat_le, nat_lt}
use Rattle.std.specs.List.{concat, range_with_len}
use Rattle.std.specs.List.Sorted.{IsStrictlyIncreasing}
use Rattle.std.proofs.Math.Seq.{take-add, take-length}
use Rattle.std.proofs.lemmas.Bool.{ltb-false, ltb-true}
use Rattle.std.proofs.lemmas.Bool.Decides.{nat_tests}
use Rattle.std.proofs.lemmas.List.{drop_more, get_or-map, length-drop, length-map, length-take, take_all}
use Rattle.std.proofs.lemmas.List.FromFn.{get_or-map-range_with_len, length-map-range_with_len, map-range_with_len_more}
use Rattle.std.proofs.lemmas.List.Sums.{sum_by_more}
use Rattle.cue_sheet.specs.Reading.{Sheet}
use Rattle.cue_sheet.specs.declared.sheet.CueTrack.{CueTrack}
use Rattle.disc_toc.specs.Joined.{broken_file, file_sectors, is_past_end, layout_reading, rises_above, sectors_in, start_of, track_fault, unless}
use Rattle.disc_toc.specs.Layout.{IsLayout}
use Rattle.disc_toc.specs.Toc.{Toc}
use Rattle.disc_ids.proofs.PlaceLaws.{start_below}
use Rattle.track_split.specs.Cuts.{cut_place, cut_words, piece_words}
use Rattle.track_split.proofs.CutPlaceLaws.{place_at, place_end, place_rises, place_within}
use Rattle.track_split.proofs.SheetLaws.{first_file_tracks, join_cue, own_tracks, split_cue}

-- ---- a sheet without a fault

whole_files : (file : ℕ) (words : List ℕ) → ((k : ℕ) → k < length words → get_or words k 0 % 1176 ≡ 0) → broken_file file words ≡ None
unfolding broken_file
whole_files file [] whole = refl
whole_files file (count ∷ words) whole =
    let first : count % 1176 ≡ 0 = whole 0 (omega arith) in
    let test : (count % 1176 == 0) ≡ true = grind (arith, nat_tests) in
    rw test (whole_files (file + 1) words (λ k below. whole (suc k) (omega arith)))

-- each track begins in its file
AreInside : List ℕ → List CueTrack → Type 0
AreInside words tracks = (k : ℕ) (d : CueTrack) → k < length tracks → is_past_end words (get_or tracks k d) ≡ false

-- starts that rise, after one
RisesFrom : Option ℕ → List ℕ → Type 0
RisesFrom before [] = Unit {0}
RisesFrom before (start ∷ starts) = (rises_above before start ≡ true) × RisesFrom (Some start) starts

no_fault : (words : List ℕ) (number : ℕ) (before : Option ℕ) (tracks : List CueTrack) → AreInside words tracks → RisesFrom before (map (start_of words) tracks) → track_fault words number before tracks ≡ None
unfolding track_fault AreInside RisesFrom
no_fault words number before [] inside rises = refl
no_fault words number before (track ∷ tracks) inside rises =
    let here : is_past_end words track ≡ false = inside 0 track (omega arith) in
    rw (here, rises.0) (no_fault words (number + 1) (Some (start_of words track)) tracks (λ k d below. inside (suc k) d (omega arith)) rises.1)

-- the numbers after the first rise too
pub tail_rises : (x : ℕ) (xs : List ℕ) → IsStrictlyIncreasing (x ∷ xs) → IsStrictlyIncreasing xs
tail_rises x xs rising k inside =
    let next : suc k + 1 ≡ suc (k + 1) = omega arith in
    let e : get_or (x ∷ xs) (suc k) 0 < get_or (x ∷ xs) (suc k + 1) 0 = rising (suc k) (omega arith) in
    rw next at e

rises_after : (x : ℕ) (xs : List ℕ) → IsStrictlyIncreasing (x ∷ xs) → RisesFrom (Some x) xs
unfolding RisesFrom
rises_after x [] rising = tt
rises_after x (y ∷ xs) rising =
    let first : x < y = rising 0 (omega arith) in
    let test : nat_lt x y ≡ true = grind (arith, nat_tests) in
    (test, rises_after y xs (tail_rises x (y ∷ xs) rising))

rises_all : (xs : List ℕ) → IsStrictlyIncreasing xs → RisesFrom None xs
unfolding RisesFrom
rises_all [] rising = tt
rises_all (x ∷ xs) rising = (refl, rises_after x xs rising)

-- a sheet whose tracks and files are a disc's is read as the disc
layout_read : (sheet : Sheet) (words : List ℕ) (toc : Toc) → IsLayout toc.pregap toc.starts toc.sectors → ((k : ℕ) → k < length words → get_or words k 0 % 1176 ≡ 0) → AreInside words sheet.tracks
    → map (start_of words) sheet.tracks ≡ toc.starts → sectors_in words ≡ toc.sectors → sheet.pregap ≡ toc.pregap → layout_reading sheet words ≡ Ok toc
unfolding layout_reading unless
layout_read sheet words toc valid whole inside starts sectors pregap =
    let files = whole_files 1 words whole in
    let rises : RisesFrom None (map (start_of words) sheet.tracks) = subst (RisesFrom None) (sym starts) (rises_all toc.starts valid.rising) in
    let tracks = no_fault words 1 None sheet.tracks inside rises in
    let fits : nat_lt 445500 (toc.pregap + toc.sectors) ≡ false = (let most = valid.fits in grind (arith, nat_tests)) in
    let make : ℕ → List ℕ → ℕ → Toc = λ p s n. record { pregap = p; starts = s; sectors = n } in
    rw (files, tracks, pregap, sectors, fits) (ap (λ s. Ok (make toc.pregap s toc.sectors)) starts)

-- ---- one file

file_of_sectors : (sectors : ℕ) → file_sectors (1176 * sectors) ≡ sectors
file_of_sectors sectors = omega arith

one_start : (sectors start : ℕ) → start_of (1176 * sectors ∷ []) record { file = 0; index01 = start } ≡ start
unfolding start_of sectors_in
one_start sectors start = omega arith

one_starts : (sectors : ℕ) (starts : List ℕ) → map (start_of (1176 * sectors ∷ [])) (first_file_tracks starts) ≡ starts
one_starts sectors [] = refl
one_starts sectors (start ∷ starts) = ap₂ (λ x xs. x ∷ xs) (one_start sectors start) (one_starts sectors starts)

one_inside : (sectors : ℕ) (starts : List ℕ) → ((k : ℕ) → k < length starts → get_or starts k 0 < sectors) → AreInside (1176 * sectors ∷ []) (first_file_tracks starts)
unfolding AreInside
one_inside sectors [] below k d within = absurd (omega arith)
one_inside sectors (start ∷ starts) below zero d within =
    let first : start < sectors = below 0 (omega arith) in
    let test : nat_le sectors start ≡ false = grind (arith, nat_tests) in
    let size = file_of_sectors sectors in
    rw size test
one_inside sectors (start ∷ starts) below (suc k) d within = one_inside sectors starts (λ k h. below (suc k) (omega arith)) k d (omega arith)

one_sectors : (sectors : ℕ) → sectors_in (1176 * sectors ∷ []) ≡ sectors
unfolding sectors_in
one_sectors sectors = omega arith

one_whole : (sectors k : ℕ) → k < length (1176 * sectors ∷ []) → get_or (1176 * sectors ∷ []) k 0 % 1176 ≡ 0
one_whole sectors zero below = omega arith
one_whole sectors (suc k) below = absurd (omega arith)

-- the sheet of one file that has a disc's words is read as the disc
pub join_layout : (name : List ℕ) (toc : Toc) → IsLayout toc.pregap toc.starts toc.sectors → layout_reading (join_cue name toc.pregap toc.starts) (1176 * toc.sectors ∷ []) ≡ Ok toc
join_layout name toc valid =
    layout_read (join_cue name toc.pregap toc.starts) (1176 * toc.sectors ∷ []) toc valid (one_whole toc.sectors)
    (one_inside toc.sectors toc.starts (λ k below. start_below toc.pregap toc.starts toc.sectors valid k below))
    (one_starts toc.sectors toc.starts) (one_sectors toc.sectors) refl

-- ---- a file for each track

module _ (toc : Toc) (valid : IsLayout toc.pregap toc.starts toc.sectors) (words : List ℕ) (each : length words ≡ length toc.starts)
    (sizes : (k : ℕ) → k < length words → get_or words k 0 ≡ 1176 * (cut_place toc (k + 1) - cut_place toc k)) where
  -- the files before a cut have the sectors before it
  sectors_before : (i : ℕ) → i ≤ length words → sectors_in (take i words) ≡ cut_place toc i
  unfolding sectors_in
  sectors_before zero most = refl
  sectors_before (suc i) most =
      let more : suc i ≡ i + 1 = omega arith in
      let before = sectors_before i (omega arith) in
      let size = sizes i (omega arith) in
      let here : file_sectors (get_or words i 0) ≡ cut_place toc (i + 1) - cut_place toc i = ap file_sectors size ∙ file_of_sectors (cut_place toc (i + 1) - cut_place toc i) in
      let rises = place_rises toc valid i (omega arith) in
      ap (λ n. sectors_in (take n words)) more ∙ sum_by_more file_sectors words i 0 (omega arith)
      ∙ ap₂ (λ a b. a + b) before here ∙ (let whole : cut_place toc i + (cut_place toc (i + 1) - cut_place toc i) ≡ cut_place toc (i + 1) = omega arith in whole) ∙ ap (cut_place toc) (sym more)

  all_sectors : sectors_in words ≡ toc.sectors
  all_sectors =
      ap sectors_in (sym (take-length words)) ∙ sectors_before (length words) (omega arith) ∙ place_end toc (length words) (let some = valid.some in omega arith) (omega arith)

  all_whole : (k : ℕ) → k < length words → get_or words k 0 % 1176 ≡ 0
  all_whole k below = let size = sizes k below in omega arith

  own_start : (file : ℕ) → 0 < file → file < length toc.starts → start_of words record { file = file; index01 = 0 } ≡ get_or toc.starts file 0
  unfolding start_of
  own_start file some below = let before = sectors_before file (omega arith) in let at = place_at toc file some below in omega arith

  own_starts : (file : ℕ) (later : List ℕ) → 0 < file → later ≡ drop file toc.starts → map (start_of words) (own_tracks file later) ≡ later
  own_starts file [] some is = refl
  own_starts file (start ∷ later) some is =
      let below : file < length toc.starts = omega (arith, ap length is, length-drop file toc.starts) in
      let split : start ∷ later ≡ get_or toc.starts file 0 ∷ drop (file + 1) toc.starts = is ∙ drop_more toc.starts file 0 below in
      let first : start ≡ get_or toc.starts file 0 = ap (λ xs. get_or xs 0 0) split in
      let rest : later ≡ drop (file + 1) toc.starts = ap (drop 1) split in
      ap₂ (λ x xs. x ∷ xs) (own_start file some below ∙ sym first) (own_starts (file + 1) later (omega arith) rest)

  -- a track after the first has some sectors
  some_own : (file : ℕ) → 0 < file → file < length toc.starts → is_past_end words record { file = file; index01 = 0 } ≡ false
  some_own file some below =
      let size = sizes file (omega arith) in
      let grows = grows_after file some below in
      let here : file_sectors (get_or words file 0) ≡ cut_place toc (file + 1) - cut_place toc file = ap file_sectors size ∙ file_of_sectors (cut_place toc (file + 1) - cut_place toc file) in
      let test : nat_le (cut_place toc (file + 1) - cut_place toc file) 0 ≡ false = grind (arith, nat_tests) in
      rw here test
    where
      grows_after : (i : ℕ) → 0 < i → i < length toc.starts → cut_place toc i < cut_place toc (i + 1)
      grows_after i some below = by (nat_lt (i + 1) (length toc.starts)) refl
        where
          by : (b : Bool) → nat_lt (i + 1) (length toc.starts) ≡ b → cut_place toc i < cut_place toc (i + 1)
          by true is =
              let more : i + 1 < length toc.starts = ltb-true _ _ is in
              let rises : get_or toc.starts i 0 < get_or toc.starts (i + 1) 0 = valid.rising i more in
              omega (arith, rises, place_at toc i some below, place_at toc (i + 1) (omega arith) more)
          by false is =
              omega (arith, start_below toc.pregap toc.starts toc.sectors valid i below, place_at toc i some below, place_end toc (i + 1) (omega arith) (ltb-false _ _ is))

  own_inside : (file : ℕ) (later : List ℕ) → 0 < file → file + length later ≤ length toc.starts → AreInside words (own_tracks file later)
  unfolding AreInside
  own_inside file [] some most k d below = absurd (omega arith)
  own_inside file (start ∷ later) some most zero d below = some_own file some (omega arith)
  own_inside file (start ∷ later) some most (suc k) d below = own_inside (file + 1) later (omega arith) (omega arith) k d (omega arith)

  -- the first track begins in the first file
  first_inside : is_past_end words record { file = 0; index01 = get_or toc.starts 0 0 } ≡ false
  first_inside =
      let size = sizes 0 (let some = valid.some in omega arith) in
      let here : file_sectors (get_or words 0 0) ≡ cut_place toc 1 = ap file_sectors size ∙ file_of_sectors (cut_place toc 1 - 0) ∙ omega arith in
      let early = first_cut in
      let test : nat_le (cut_place toc 1) (get_or toc.starts 0 0) ≡ false = grind (arith, nat_tests) in
      rw here test
    where
      first_cut : get_or toc.starts 0 0 < cut_place toc 1
      first_cut = by (nat_lt 1 (length toc.starts)) refl
        where
          by : (b : Bool) → nat_lt 1 (length toc.starts) ≡ b → get_or toc.starts 0 0 < cut_place toc 1
          by true is =
              let more : 0 + 1 < length toc.starts = ltb-true _ _ is in
              let rises : get_or toc.starts 0 0 < get_or toc.starts (0 + 1) 0 = valid.rising 0 more in
              omega (arith, rises, place_at toc 1 (omega arith) more)
          by false is =
              omega (arith, start_below toc.pregap toc.starts toc.sectors valid 0 valid.some, place_end toc 1 (omega arith) (ltb-false _ _ is))

  split_inside : (first : ℕ) (later : List ℕ) → toc.starts ≡ first ∷ later → AreInside words (record { file = 0; index01 = first } ∷ own_tracks 1 later)
  unfolding AreInside
  split_inside first later is zero d below =
      let same : get_or toc.starts 0 0 ≡ first = ap (λ xs. get_or xs 0 0) is in
      subst (λ n. is_past_end words record { file = 0; index01 = n } ≡ false) same first_inside
  split_inside first later is (suc k) d below = own_inside 1 later (omega arith) (omega (arith, ap length is)) k d (omega arith)

  first_start : (first : ℕ) → start_of words record { file = 0; index01 = first } ≡ first
  unfolding start_of sectors_in
  first_start first = omega arith

  -- the sheet of files that have the tracks' sectors is read as the disc
  pub split_layout : (first : ℕ) (later : List ℕ) → toc.starts ≡ first ∷ later → layout_reading (split_cue toc.pregap first later) words ≡ Ok toc
  split_layout first later is =
      layout_read (split_cue toc.pregap first later) words toc valid all_whole (split_inside first later is)
      (ap₂ (λ x xs. x ∷ xs) (first_start first) (own_starts 1 later (omega arith) (sym (ap (drop 1) is))) ∙ sym is) all_sectors refl

-- ---- the words of the pieces

module _ (toc : Toc) (valid : IsLayout toc.pregap toc.starts toc.sectors) (words : List ℕ) (all : length words ≡ 1176 * toc.sectors) where
  pub piece_length : (i : ℕ) → i < length toc.starts → length (piece_words toc words i) ≡ 1176 * (cut_place toc (i + 1) - cut_place toc i)
  piece_length i below =
      let from = cut_place toc i in
      let to = cut_place toc (i + 1) in
      let rises = place_rises toc valid i below in
      let within = place_within toc valid (i + 1) in
      let one = length-take (1176 * to - 1176 * from) (drop (1176 * from) words) in
      let two = length-drop (1176 * from) words in
      omega arith

  -- the pieces of the first tracks are the words up to the next cut
  concat_push : (front : List (List ℕ)) (last : List ℕ) → concat (front ++ last ∷ []) ≡ concat front ++ last
  concat_push [] last = append-nil last
  concat_push (xs ∷ front) last = ap (λ rest. xs ++ rest) (concat_push front last) ∙ sym (append_assoc xs (concat front) last)

  pieces_so_far : (i : ℕ) → i ≤ length toc.starts → concat (map (piece_words toc words) (range_with_len 0 i)) ≡ take (1176 * cut_place toc i) words
  pieces_so_far zero most = refl
  pieces_so_far (suc i) most =
      let more : suc i ≡ i + 1 = omega arith in
      let from = 1176 * cut_place toc i in
      let to = 1176 * cut_place toc (i + 1) in
      let rises = place_rises toc valid i (omega arith) in
      let whole : from + (to - from) ≡ to = omega arith in
      ap (λ n. concat (map (piece_words toc words) (range_with_len 0 n))) more
      ∙ ap concat (map-range_with_len_more (piece_words toc words) 0 i i (omega arith))
      ∙ concat_push (map (piece_words toc words) (range_with_len 0 i)) (piece_words toc words i)
      ∙ ap (λ front. front ++ piece_words toc words i) (pieces_so_far i (omega arith))
      ∙ sym (take-add from (to - from) words) ∙ ap (λ n. take n words) whole ∙ ap (λ n. take (1176 * cut_place toc n) words) (sym more)

  -- all pieces together are all words
  pub pieces_joined : concat (cut_words toc words) ≡ words
  pieces_joined =
      let end = place_end toc (length toc.starts) valid.some (omega arith) in
      pieces_so_far (length toc.starts) (omega arith) ∙ take_all (1176 * cut_place toc (length toc.starts)) words (omega arith)

  pub pieces_each : length (map length (cut_words toc words)) ≡ length toc.starts
  pieces_each = length-map (cut_words toc words) length ∙ length-map-range_with_len (piece_words toc words) 0 (length toc.starts)

  pub pieces_sizes : (k : ℕ) → k < length (map length (cut_words toc words)) → get_or (map length (cut_words toc words)) k 0 ≡ 1176 * (cut_place toc (k + 1) - cut_place toc k)
  pieces_sizes k below =
      let in_range : k < length toc.starts = omega (arith, pieces_each) in
      let there : k < length (cut_words toc words) = omega (arith, length-map-range_with_len (piece_words toc words) 0 (length toc.starts)) in
      get_or-map length (cut_words toc words) k [] 0 there
      ∙ ap length (get_or-map-range_with_len (piece_words toc words) 0 (length toc.starts) k k [] in_range (omega arith)) ∙ piece_length k in_range

  -- the sheet that is written, with files of the pieces, is read as the disc
  pub cut_layout : (first : ℕ) (later : List ℕ) → toc.starts ≡ first ∷ later → layout_reading (split_cue toc.pregap first later) (map length (cut_words toc words)) ≡ Ok toc
  cut_layout first later is = split_layout toc valid (map length (cut_words toc words)) pieces_each pieces_sizes first later is
