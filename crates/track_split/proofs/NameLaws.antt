-- The names of the files that are written of a disc: no two are one, and how long they are.
use Rattle.std.proofs.Common.{◌≡◌, ◌≢◌, ◌∙◌, ℕ, zero, suc, ◌+◌, ◌/◌, ◌%◌, ◌<◌, ◌≤◌, List, [], ◌∷◌, ◌++◌, length, map, drop, get_or, sym, ap, arith, length-append}
use Rattle.std.specs.Prelude.{All, AllPairs, codes}
use Rattle.std.specs.List.{range_with_len}
use Rattle.std.proofs.lemmas.List.FromFn.{get_or-map-range_with_len, length-map-range_with_len}
use Rattle.std.proofs.lemmas.List.Elements.{All-cons, All-nil, All-push}
use Rattle.std.proofs.lemmas.List.Quantifiers.{all_pairs_push}
use Rattle.track_split.specs.Sheets.{track_file}
use Rattle.track_split.specs.Tracks.{join_names, split_names}

-- ---- no two files have one name

cancel : (front a b : List ℕ) → front ++ a ≡ front ++ b → a ≡ b
cancel [] a b e = e
cancel (x ∷ front) a b e = cancel front a b (ap (drop 1) e)

track_apart : (i j : ℕ) → i < j → j ≤ 99 → track_file j ≢ track_file i
track_apart i j low most e =
    let tens : 48 + j / 10 ≡ 48 + i / 10 = ap (λ name. get_or name 5 0) e in
    let ones : 48 + j % 10 ≡ 48 + i % 10 = ap (λ name. get_or name 6 0) e in
    omega arith

lower : (a b : ℕ) → a < b → a ≡ b → ⊥
lower a b below same = omega arith

sheet_apart : (i : ℕ) → codes "disc.cue" ≢ track_file i
sheet_apart i e = lower 100 116 (omega arith) (ap (λ name. get_or name 0 0) e)

pub split_many : (folder : List ℕ) (tracks : ℕ) → length (split_names folder tracks) ≡ tracks + 1
split_many folder tracks =
    length-append (map (λ i. folder ++ track_file (i + 1)) (range_with_len 0 tracks)) ((folder ++ codes "disc.cue") ∷ [])
    ∙ (let size = length-map-range_with_len (λ i. folder ++ track_file (i + 1)) 0 tracks in omega arith)

pub split_distinct : (folder : List ℕ) (tracks : ℕ) → tracks ≤ 99 → AllPairs (λ earlier later. later ≢ earlier) (split_names folder tracks)
split_distinct folder tracks few = all_pairs_push (λ earlier later. later ≢ earlier) tracks_named (folder ++ codes "disc.cue") pairs last
  where
    tracks_named : List (List ℕ)
    tracks_named = map (λ i. folder ++ track_file (i + 1)) (range_with_len 0 tracks)

    pairs : AllPairs (λ earlier later. later ≢ earlier) (map (λ i. folder ++ track_file (i + 1)) (range_with_len 0 tracks))
    pairs i j d low below same =
        let size = length-map-range_with_len (λ i. folder ++ track_file (i + 1)) 0 tracks in
        let one = get_or-map-range_with_len (λ i. folder ++ track_file (i + 1)) 0 tracks i i d (omega arith) (omega arith) in
        let two = get_or-map-range_with_len (λ i. folder ++ track_file (i + 1)) 0 tracks j j d (omega arith) (omega arith) in
        track_apart (i + 1) (j + 1) (omega arith) (omega arith) (cancel folder (track_file (j + 1)) (track_file (i + 1)) (sym two ∙ same ∙ one))

    last : All (λ earlier. folder ++ codes "disc.cue" ≢ earlier) (map (λ i. folder ++ track_file (i + 1)) (range_with_len 0 tracks))
    last k d below same =
        let size = length-map-range_with_len (λ i. folder ++ track_file (i + 1)) 0 tracks in
        let one = get_or-map-range_with_len (λ i. folder ++ track_file (i + 1)) 0 tracks k k d (omega arith) (omega arith) in
        sheet_apart (k + 1) (cancel folder (codes "disc.cue") (track_file (k + 1)) (same ∙ one))

-- a name with so many bytes, or fewer than five more
abbrev pub IsAbout : ℕ → List ℕ → Type 0
IsAbout least name = (least ≤ length name) × (length name < least + 5)

pub split_about : (folder : List ℕ) (tracks : ℕ) → All (IsAbout (length folder + 8)) (split_names folder tracks)
split_about folder tracks = All-push (IsAbout (length folder + 8)) (map (λ i. folder ++ track_file (i + 1)) (range_with_len 0 tracks)) (folder ++ codes "disc.cue") each (let size = length-append folder (codes "disc.cue") in (omega arith, omega arith))
  where
    each : All (IsAbout (length folder + 8)) (map (λ i. folder ++ track_file (i + 1)) (range_with_len 0 tracks))
    each k d below =
        let size = length-map-range_with_len (λ i. folder ++ track_file (i + 1)) 0 tracks in
        let one = get_or-map-range_with_len (λ i. folder ++ track_file (i + 1)) 0 tracks k k d (omega arith) (omega arith) in
        let long = length-append folder (track_file (k + 1)) in
        let same = ap length one in
        (omega arith, omega arith)

-- ---- one file

-- the sheet's name is longer
longer_apart : (to : List ℕ) → to ++ codes ".cue" ≢ to
longer_apart to same = omega (arith, length-append to (codes ".cue"), ap length same)

pub join_distinct : (to : List ℕ) → AllPairs (λ earlier later. later ≢ earlier) (join_names to)
join_distinct to zero zero d low below = absurd (omega arith)
join_distinct to zero (suc zero) d low below = longer_apart to
join_distinct to zero (suc (suc j)) d low below = absurd (omega arith)
join_distinct to (suc i) zero d low below = absurd (omega arith)
join_distinct to (suc i) (suc j) d low below = absurd (omega arith)

pub join_about : (to : List ℕ) → All (IsAbout (length to)) (join_names to)
join_about to =
    let size = length-append to (codes ".cue") in
    All-cons (IsAbout (length to)) to ((to ++ codes ".cue") ∷ []) (omega arith, omega arith)
    (All-cons (IsAbout (length to)) (to ++ codes ".cue") [] (omega arith, omega arith) (All-nil (IsAbout (length to))))
