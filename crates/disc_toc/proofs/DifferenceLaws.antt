-- There is no first difference exactly where two layouts say the same.
use Rattle.std.proofs.Common.{◌≡◌, ℕ, ◌+◌, List, [], ◌∷◌, length, Bool, true, false, cond, Option, None, Some, refl, sym, ◌∙◌, ap, arith}
use Rattle.std.specs.Prelude.{find, not, ◌==◌, ◌↔◌, IsNone}
use Rattle.std.proofs.lemmas.Bool.{eqb-true, eq-eqb}
use Rattle.disc_toc.specs.declared.difference.Differs.{Differs}
use Rattle.disc_toc.specs.declared.layout.Layout.{Layout}
use Rattle.disc_toc.specs.Toc.{Toc, toc_of}
use Rattle.disc_toc.specs.Difference.{difference_of, differs, starts_from}
use Rattle.disc_toc.proofs.LayoutLaws.{same_layout}

found_none : (b : Bool) (x : Differs) (later : Option Differs) → cond b (Some x) later ≡ None → (b ≡ false) × (later ≡ None)
found_none true x later none = cc
found_none false x later none = (refl, none)

same_number : (x y : ℕ) → not (x == y) ≡ false → x ≡ y
same_number x y e = eqb-true x y (by (x == y) e)
  where
    by : (b : Bool) → not b ≡ false → b ≡ true
    by true differ = refl
    by false differ = cc

is_same : (x : ℕ) → (x == x) ≡ true
is_same x = eq-eqb x x refl

starts_from-same : (track : ℕ) (starts : List ℕ) → find differs (starts_from track starts starts) ≡ None
starts_from-same track [] = refl
starts_from-same track (start ∷ starts) = rw (is_same start) (starts_from-same (track + 1) starts)

starts_from-None : (track : ℕ) (a b : List ℕ) → length a ≡ length b → find differs (starts_from track a b) ≡ None → a ≡ b
starts_from-None track [] [] same none = refl
starts_from-None track [] (y ∷ b) same none = absurd (omega arith)
starts_from-None track (x ∷ a) [] same none = absurd (omega arith)
starts_from-None track (x ∷ a) (y ∷ b) same none =
    let first = found_none (not (x == y)) _ (find differs (starts_from (track + 1) a b)) none in
    let one : x ≡ y = same_number x y first.0 in
    let rest : a ≡ b = starts_from-None (track + 1) a b (omega arith) first.1 in
    cc

pub difference_of-same : (toc : Toc) → difference_of toc toc ≡ None
difference_of-same toc = rw (is_same toc.pregap, is_same toc.sectors, is_same (length toc.starts)) (starts_from-same 1 toc.starts)

pub difference_of-None : (rip kept : Toc) → difference_of rip kept ≡ None → rip ≡ kept
difference_of-None rip kept none =
    let pregaps = found_none (not (rip.pregap == kept.pregap)) _ _ none in
    let ends = found_none (not (rip.sectors == kept.sectors)) _ _ pregaps.1 in
    let tracks = found_none (not (length rip.starts == length kept.starts)) _ _ ends.1 in
    let pregap : rip.pregap ≡ kept.pregap = same_number _ _ pregaps.0 in
    let sectors : rip.sectors ≡ kept.sectors = same_number _ _ ends.0 in
    let starts : rip.starts ≡ kept.starts = starts_from-None 1 _ _ (same_number _ _ tracks.0) tracks.1 in
    ap (λ p. toc p rip.starts rip.sectors) pregap ∙ (ap (λ s. toc kept.pregap s rip.sectors) starts ∙ ap (toc kept.pregap kept.starts) sectors)
  where
    toc : ℕ → List ℕ → ℕ → Toc
    toc pregap starts sectors = record { pregap = pregap; starts = starts; sectors = sectors }

pub IsNone-difference_of : (rip kept : Layout) (found : Option Differs) → found ≡ difference_of (toc_of rip) (toc_of kept) → IsNone found ↔ (rip ≡ kept)
IsNone-difference_of rip kept None is = (λ _. same_layout rip kept (difference_of-None _ _ (sym is)), λ _. refl)
IsNone-difference_of rip kept (Some found) is = (λ none. cc, λ same. let none : difference_of (toc_of rip) (toc_of kept) ≡ None = rw same (difference_of-same (toc_of kept)) in cc)
