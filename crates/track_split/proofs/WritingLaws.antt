-- The lines of a sheet, track by track.
use Rattle.std.proofs.Common.{◌≡◌, ◌∙◌, ℕ, zero, suc, ◌+◌, ◌<◌, ◌≤◌, List, [], ◌∷◌, ◌++◌, length, drop, false, refl, sym, ap, ap₂, arith, append_assoc, append-nil, get_or}
use Rattle.std.specs.Prelude.{◌==◌, if◌then◌else◌, codes, slice_index, Result, Ok, Err, OnOk}
use Rattle.std.proofs.lemmas.Bool.Decides.{nat_tests}
use Rattle.std.proofs.lemmas.List.{drop_more}
use Rattle.std.proofs.lemmas.List.Concat.{flat_map-append}
use Rattle.std.proofs.Math.ListN.{drop_of_length-le}
use Rattle.track_split.specs.Sheets.{entry_lines, file_line, first_only, joined_lines, later_lines, split_lines, text_of_lines, track_file}

pub text-append : (front back : List (List ℕ)) → text_of_lines (front ++ back) ≡ text_of_lines front ++ text_of_lines back
text-append front back = flat_map-append (λ (line : List ℕ). line ++ 10 ∷ []) front back

-- a text that grew by lines and by more of them
pub grows_twice : (old mid new : List ℕ) (front back : List (List ℕ)) → mid ≡ old ++ text_of_lines front → new ≡ mid ++ text_of_lines back → new ≡ old ++ text_of_lines (front ++ back)
grows_twice old mid new front back one two =
    two ∙ ap (λ text. text ++ text_of_lines back) one ∙ append_assoc old (text_of_lines front) (text_of_lines back) ∙ ap (λ text. old ++ text) (sym (text-append front back))

-- lines so far, and those of the next track
pub next_lines : (old new whole : List ℕ) (left here rest : List (List ℕ)) → new ≡ old ++ text_of_lines here → left ≡ here ++ rest → old ++ text_of_lines left ≡ whole → new ++ text_of_lines rest ≡ whole
next_lines old new whole left here rest grown split so_far =
    ap (λ text. text ++ text_of_lines rest) grown ∙ append_assoc old (text_of_lines here) (text_of_lines rest)
    ∙ ap (λ text. old ++ text) (sym (text-append here rest)) ∙ ap (λ lines. old ++ text_of_lines lines) (sym split) ∙ so_far

later_none : (value i : ℕ) → first_only value (i + 1) ≡ 0
later_none value i = let other : (i + 1 == 0) ≡ false = grind (arith, nat_tests) in rw other refl

-- the tracks that are left in a sheet of one file
pub joined_next : (pregap i : ℕ) (starts : List ℕ) → i < length starts
    → joined_lines (i + 1) (first_only pregap i) (drop i starts) ≡ entry_lines (i + 1) (first_only pregap i) (get_or starts i 0) ++ joined_lines (i + 1 + 1) (first_only pregap (i + 1)) (drop (i + 1) starts)
joined_next pregap i starts below =
    ap (joined_lines (i + 1) (first_only pregap i)) (drop_more starts i 0 below)
    ∙ ap (λ gap. entry_lines (i + 1) (first_only pregap i) (get_or starts i 0) ++ joined_lines (i + 1 + 1) gap (drop (i + 1) starts)) (sym (later_none pregap i))

-- the tracks that are left in a sheet of a file for each track
abbrev pub split_left : ℕ → ℕ → List ℕ → List (List ℕ)
split_left pregap i starts = if i == 0 then split_lines pregap starts else later_lines (i + 1) (drop i starts)

abbrev pub own_lines : ℕ → ℕ → List ℕ → List (List ℕ)
own_lines pregap i starts = file_line (track_file (i + 1)) ∷ entry_lines (i + 1) (first_only pregap i) (first_only (slice_index starts 0) i)

split_after : (pregap i : ℕ) (starts : List ℕ) → split_left pregap (i + 1) starts ≡ later_lines (i + 1 + 1) (drop (i + 1) starts)
split_after pregap i starts = let other : (i + 1 == 0) ≡ false = grind (arith, nat_tests) in rw other refl

pub split_next : (pregap i : ℕ) (starts : List ℕ) → i < length starts → split_left pregap i starts ≡ own_lines pregap i starts ++ split_left pregap (i + 1) starts
split_next pregap i [] below = absurd (omega arith)
split_next pregap zero (first ∷ later) below = refl
split_next pregap (suc i) (first ∷ later) below =
    let other : (suc i == 0) ≡ false = grind (arith, nat_tests) in
    let here : split_left pregap (suc i) (first ∷ later) ≡ later_lines (suc i + 1) (drop (suc i) (first ∷ later)) = rw other refl in
    let gap : first_only pregap (suc i) ≡ 0 = rw other refl in
    let time : first_only first (suc i) ≡ 0 = rw other refl in
    here ∙ ap (later_lines (suc i + 1)) (drop_more (first ∷ later) (suc i) 0 below)
    ∙ ap₂ (λ g t. file_line (track_file (suc i + 1)) ∷ entry_lines (suc i + 1) g t ++ later_lines (suc i + 1 + 1) (drop (suc i + 1) (first ∷ later))) (sym gap) (sym time)
    ∙ ap (λ rest. own_lines pregap (suc i) (first ∷ later) ++ rest) (sym (split_after pregap (suc i) (first ∷ later)))

-- and none at the end
pub none_joined : (pregap i : ℕ) (starts : List ℕ) → length starts ≤ i → joined_lines (i + 1) (first_only pregap i) (drop i starts) ≡ []
none_joined pregap i starts end = ap (joined_lines (i + 1) (first_only pregap i)) (drop_of_length-le starts end)

pub none_split : (pregap i : ℕ) (starts : List ℕ) → 0 < length starts → length starts ≤ i → split_left pregap i starts ≡ []
none_split pregap i starts some end =
    let other : (i == 0) ≡ false = grind (arith, nat_tests) in
    let here : split_left pregap i starts ≡ later_lines (i + 1) (drop i starts) = rw other refl in
    here ∙ ap (later_lines (i + 1)) (drop_of_length-le starts end)

pub all_written : (text whole : List ℕ) (left : List (List ℕ)) → left ≡ [] → text ++ text_of_lines left ≡ whole → text ≡ whole
all_written text whole left none so_far = sym (append-nil text) ∙ ap (λ lines. text ++ text_of_lines lines) (sym none) ∙ so_far

-- a track's lines
pub grows_both : {E : Type 0} (old one two new : List ℕ) (r : Result (Unit {0}) E) (first : List ℕ) (middle : List (List ℕ)) (last : List ℕ) → one ≡ old ++ text_of_lines (first ∷ []) → two ≡ one ++ text_of_lines middle
    → OnOk r (new ≡ two ++ text_of_lines (last ∷ [])) → OnOk r (new ≡ old ++ text_of_lines (first ∷ middle ++ last ∷ []))
grows_both old one two new (Err e) first middle last begun more end = tt
grows_both old one two new (Ok done) first middle last begun more end =
    grows_twice old one new (first ∷ []) (middle ++ last ∷ []) begun (grows_twice one two new middle (last ∷ []) more end)

-- a name that is made part by part
pub name_made : (folder n0 n1 n2 n3 n4 : List ℕ) (tens ones : ℕ) → n0 ≡ folder → n1 ≡ n0 ++ codes "track" → n2 ≡ n1 ++ tens ∷ [] → n3 ≡ n2 ++ ones ∷ [] → n4 ≡ n3 ++ codes ".wav"
    → n4 ≡ folder ++ (codes "track" ++ (tens ∷ (ones ∷ [])) ++ codes ".wav")
name_made folder n0 n1 n2 n3 n4 tens ones e0 e1 e2 e3 e4 = rw (e4, e3, e2, e1, e0) (simp append_assoc)
