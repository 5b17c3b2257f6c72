-- What is read as the layout of a sheet is a layout.
use Rattle.std.proofs.Common.{◌≡◌, ℕ, zero, suc, ◌+◌, ◌-◌, ◌/◌, ◌%◌, ◌<◌, List, [], ◌∷◌, length, Bool, true, false, cond, Option, None, Some, Result, Ok, Err, map, refl, arith, add-one, zero-add}
use Rattle.std.proofs.lemmas.List.{length-map}
use Rattle.std.specs.Prelude.{All, nat_lt, nat_le, slice_index, ◌==◌}
use Rattle.std.specs.Result.{result_map_both}
use Rattle.std.specs.List.Sorted.{IsStrictlyIncreasing}
use Rattle.std.proofs.lemmas.Bool.{ltb-true, ltb-false, leb-false, eqb-true, eqb-false, le-leb, lt-leb}
use Rattle.std.proofs.lemmas.List.Sums.{sum_by_more_le}
use Rattle.cue_sheet.specs.declared.sheet.CueTrack.{CueTrack}
use Rattle.cue_sheet.specs.Reading.{Sheet}
use Rattle.cue_sheet.specs.Sheet.{IsPlaced, IsSheet}
use Rattle.disc_toc.specs.declared.reading.LayoutKind.{LayoutKind}
use Rattle.disc_toc.specs.declared.reading.LayoutKind.TheVariants.{NotWholeSectors, IndexPastEnd, StartOrder, TooLong}
use Rattle.disc_toc.specs.Toc.{Toc}
use Rattle.disc_toc.specs.Layout.{IsLayout}
use Rattle.disc_toc.specs.OneTrack.{one_track_of, one_track_reading}
use Rattle.disc_toc.specs.Joined.{broken_file, is_past_end, joined_toc, layout_reading, option_kind, rises_above, sectors_in, file_sectors, sole_sheet, start_of, track_fault, unless}

-- ---- tracks without a fault

no_fault : (past rising : Bool) (x y : LayoutKind) (later : Option LayoutKind) → cond past (Some x) (cond rising later (Some y)) ≡ None
    → (past ≡ false) × (rising ≡ true) × (later ≡ None)
no_fault true rising x y later none = cc
no_fault false true x y later none = (refl, refl, none)
no_fault false false x y later none = cc

first_and_later : (words : List ℕ) (number : ℕ) (before : Option ℕ) (track : CueTrack) (later : List CueTrack) → track_fault words number before (track ∷ later) ≡ None
    → (is_past_end words track ≡ false) × (rises_above before (start_of words track) ≡ true) × (track_fault words (number + 1) (Some (start_of words track)) later ≡ None)
unfolding track_fault
first_and_later words number before track later none =
    no_fault (is_past_end words track) (rises_above before (start_of words track)) (IndexPastEnd number) (StartOrder number) (track_fault words (number + 1) (Some (start_of words track)) later) none

-- a track that begins in its file begins before the end of all files
starts_inside : (words : List ℕ) (track : CueTrack) → track.file < length words → is_past_end words track ≡ false → start_of words track < sectors_in words
unfolding start_of sectors_in
starts_inside words track placed inside =
    omega (arith, sum_by_more_le file_sectors words track.file 0 placed, leb-false _ _ inside)

later_placed : {A : Type 0} (P : A → Type 0) (first : A) (later : List A) → All P (first ∷ later) → All P later
later_placed P first later placed = λ k d inside. placed (suc k) d (omega arith)

all_inside : (words : List ℕ) (number : ℕ) (before : Option ℕ) (tracks : List CueTrack) → All (IsPlaced (length words)) tracks → track_fault words number before tracks ≡ None
    → (k : ℕ) → k < length tracks → slice_index (map (start_of words) tracks) k < sectors_in words
all_inside words number before [] placed none k inside = absurd (omega arith)
all_inside words number before (track ∷ later) placed none zero inside =
    starts_inside words track (placed 0 track (omega arith)).inside (first_and_later words number before track later none).0
all_inside words number before (track ∷ later) placed none (suc k) inside =
    all_inside words (number + 1) (Some (start_of words track)) later (later_placed (IsPlaced (length words)) track later placed) (first_and_later words number before track later none).2 k (omega arith)

increasing_more : (x y : ℕ) (ys : List ℕ) → x < y → IsStrictlyIncreasing (y ∷ ys) → IsStrictlyIncreasing (x ∷ (y ∷ ys))
increasing_more x y ys below rising zero inside = below
increasing_more x y ys below rising (suc k) inside = rw add-one (rw add-one at (rising k (omega arith)))

all_rising : (words : List ℕ) (number : ℕ) (before : Option ℕ) (tracks : List CueTrack) → track_fault words number before tracks ≡ None → IsStrictlyIncreasing (map (start_of words) tracks)
all_rising words number before [] none = λ k inside. absurd (omega arith)
all_rising words number before (track ∷ []) none = λ k inside. absurd (omega arith)
all_rising words number before (track ∷ (next ∷ later)) none =
    let rest = (first_and_later words number before track (next ∷ later) none).2 in
    let above = (first_and_later words (number + 1) (Some (start_of words track)) next later rest).1 in
    increasing_more (start_of words track) (start_of words next) (map (start_of words) later) (ltb-true _ _ above) (all_rising words (number + 1) (Some (start_of words track)) (next ∷ later) rest)

-- ---- the whole

no_refusal : (fault : Option LayoutKind) (reading : Result Toc LayoutKind) (toc : Toc) → unless fault reading ≡ Ok toc → (fault ≡ None) × (reading ≡ Ok toc)
unfolding unless
no_refusal None reading toc read = (refl, read)
no_refusal (Some kind) reading toc read = cc

no_more : (more : Bool) (kind : LayoutKind) (toc : Toc) → cond more (Err kind) (Ok toc) ≡ Ok toc → more ≡ false
no_more true kind toc read = cc
no_more false kind toc read = refl

-- what is read of a sheet is a layout
pub joined_layout : (sheet : Sheet) (words : List ℕ) → IsSheet sheet.files sheet.tracks sheet.pregap → length words ≡ length sheet.files → layout_reading sheet words ≡ Ok (joined_toc sheet words)
    → IsLayout sheet.pregap (map (start_of words) sheet.tracks) (sectors_in words)
unfolding layout_reading
joined_layout sheet words valid same read =
    let files = no_refusal _ _ _ read in
    let tracks = no_refusal _ _ _ files.1 in
    let short = no_more (nat_lt 445500 (sheet.pregap + sectors_in words)) (TooLong (sectors_in words)) (joined_toc sheet words) tracks.1 in
    let placed : All (IsPlaced (length words)) sheet.tracks = rw same valid.placed in
    let long : length (map (start_of words) sheet.tracks) ≡ length sheet.tracks = length-map sheet.tracks (start_of words) in
    let some : 0 < length sheet.tracks = valid.some_tracks in
    record {
      some = omega arith;
      few = omega (arith, valid.few_tracks);
      rising = all_rising words 1 None sheet.tracks tracks.0;
      inside = all_inside words 1 None sheet.tracks placed tracks.0 (length (map (start_of words) sheet.tracks) - 1) (omega arith);
      fits = omega (arith, ltb-false _ _ short);
    }

-- ---- one file with one track

abbrev sole_track : CueTrack
sole_track = record { file = 0; index01 = 0 }

none_at_all : (n : ℕ) → nat_le n 0 ≡ (n == 0)
none_at_all n = by (n == 0) refl
  where
    some : (k : ℕ) → (k ≡ 0 → ⊥) → 0 < k
    some zero other = absurd (other refl)
    some (suc k) other = omega arith

    by : (none : Bool) → (n == 0) ≡ none → nat_le n 0 ≡ none
    by true e = le-leb n 0 (omega (arith, eqb-true _ _ e))
    by false e = lt-leb n 0 (some n (eqb-false _ _ e))

sole_file : (words : ℕ) → broken_file 1 (words ∷ []) ≡ cond (words % 1176 == 0) None (Some 1)
unfolding broken_file
sole_file words = refl

sole_fault : (words : ℕ) → track_fault (words ∷ []) 1 None (sole_track ∷ []) ≡ cond (words / 1176 == 0) (Some (IndexPastEnd 1)) None
unfolding track_fault
sole_fault words = rw (none_at_all (words / 1176)) refl

sole_start : (words : ℕ) → start_of (words ∷ []) sole_track ≡ 0
unfolding start_of sectors_in
sole_start words = refl

sole_sectors : (words : ℕ) → sectors_in (words ∷ []) ≡ words / 1176
unfolding sectors_in
sole_sectors words = zero-add _

agree : (whole none more : Bool) (sectors : ℕ)
    → unless (option_kind (cond whole None (Some 1))) (unless (cond none (Some (IndexPastEnd 1)) None) (cond more (Err (TooLong sectors)) (Ok (one_track_of sectors))))
    ≡ result_map_both one_track_of (λ kind. kind) (cond whole (cond none (Err (IndexPastEnd 1)) (cond more (Err (TooLong sectors)) (Ok sectors))) (Err (NotWholeSectors 1)))
unfolding unless
agree false none more sectors = refl
agree true true more sectors = refl
agree true false true sectors = refl
agree true false false sectors = refl

-- one file with one track that begins with it reads as a sheet of them does
pub sole_reading : (name : List ℕ) (words : ℕ) → layout_reading (sole_sheet name) (words ∷ []) ≡ one_track_reading words
unfolding layout_reading
sole_reading name words =
    rw (sole_file words, sole_fault words, sole_start words, sole_sectors words, zero-add) (agree (words % 1176 == 0) (words / 1176 == 0) (nat_lt 445500 (words / 1176)) (words / 1176))
