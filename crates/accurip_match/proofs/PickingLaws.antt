-- Laws of the offsets that are picked.
use Rattle.std.proofs.Common.{◌≡◌, ℕ, ◌+◌, ◌-◌, ◌<◌, ◌≤◌, Bool, true, false, cond, List, [], ◌∷◌, ◌++◌, length, get_or, filter, take, refl, sym, subst, ap, ap₂, ◌∙◌, arith, length-append, inl, inr}
use Rattle.std.specs.Prelude.{ℤ, pos, negsuc, int_lt, All}
use Rattle.std.specs.List.{list_any, range_with_len}
use Rattle.std.proofs.lemmas.Bool.{cases_lt, cond-false, cond-true, le-ltb, lt-ltb, or_from}
use Rattle.std.proofs.lemmas.Int.{ints}
use Rattle.std.proofs.lemmas.List.{append-nil, length-take, take-append-le, take_all}
use Rattle.std.proofs.lemmas.List.Elements.{All-append, All-cons, All-filter, All-map, All-take, filter-append}
use Rattle.std.proofs.lemmas.List.Folds.{list_any-append, list_any_at}
use Rattle.std.proofs.lemmas.List.FromFn.{get_or-range_with_len, length-range_with_len, map-range_with_len_more}
use Rattle.disc_ids.proofs.NumberLaws.{range-more}
use Rattle.accurip_match.specs.declared.block.Block.{Block}
use Rattle.accurip_match.specs.declared.ids.DiscIds.{DiscIds}
use Rattle.disc_toc.specs.Toc.{Toc}
use Rattle.accurip_match.specs.Offsets.{IsMatchOffset, all_offsets, offset_at, offsets_before}
use Rattle.accurip_match.specs.Picking.{has_sum, is_other, other_offsets, picked_offsets, with_zero}

-- ---- some track

pub any_more : (p : ℕ → Bool) (n : ℕ) → list_any p (range_with_len 1 n) ≡ false → p (n + 1) ≡ false → list_any p (range_with_len 1 (n + 1)) ≡ false
any_more p n none last =
    let next : n + 1 ≡ 1 + n = omega arith in
    ap (list_any p) (range-more 1 n) ∙ list_any-append p (range_with_len 1 n) ((1 + n) ∷ [])
    ∙ or_from _ _ none (or_from (p (1 + n)) false (ap p (sym next) ∙ last) refl)

pub any_here : (p : ℕ → Bool) (n i : ℕ) → i < n → p (i + 1) ≡ true → list_any p (range_with_len 1 n) ≡ true
any_here p n i inside here =
    let next : 1 + i ≡ i + 1 = omega arith in
    list_any_at p (range_with_len 1 n) i 0 (omega (arith, length-range_with_len 1 n)) (ap p (get_or-range_with_len 1 n i 0 inside ∙ next) ∙ here)

-- whether the blocks know a sum
pub same_known : (ids ids' : DiscIds) (t sum sum' : ℕ) (blocks : List Block) → ids ≡ ids' → sum ≡ sum' → list_any (has_sum ids t sum) blocks ≡ list_any (has_sum ids' t sum') blocks
same_known ids ids' t sum sum' blocks one two = ap₂ (λ ids sum. list_any (has_sum ids t sum) blocks) one two

-- ---- the first eight others

pub offsets_before-more : (n : ℕ) → offsets_before (n + 1) ≡ offsets_before n ++ offset_at n ∷ []
unfolding offsets_before
offsets_before-more n = map-range_with_len_more offset_at 0 n n (omega arith)

module _ (p : ℤ → Bool) where
  filter_yes : (xs : List ℤ) (d : ℤ) → p d ≡ true → filter p (xs ++ d ∷ []) ≡ filter p xs ++ d ∷ []
  filter_yes xs d here = filter-append p xs (d ∷ []) ∙ ap (λ b. filter p xs ++ cond b (d ∷ []) []) here

  filter_no : (xs : List ℤ) (d : ℤ) → p d ≡ false → filter p (xs ++ d ∷ []) ≡ filter p xs
  filter_no xs d none = filter-append p xs (d ∷ []) ∙ ap (λ b. filter p xs ++ cond b (d ∷ []) []) none ∙ append-nil (filter p xs)

  -- one more offset, where it passes, where it does not, and where there are eight
  pub first_yes : (n : ℕ) (list : List ℤ) → list ≡ take 8 (filter p (offsets_before n)) → length list < 8 → p (offset_at n) ≡ true
      → list ++ offset_at n ∷ [] ≡ take 8 (filter p (offsets_before (n + 1)))
  first_yes n list now few here =
      let found : List ℤ = filter p (offsets_before n) in
      let short : length found < 8 = omega (arith, ap (λ (l : List ℤ). length l) now, length-take 8 found) in
      ap (λ l. l ++ offset_at n ∷ []) (now ∙ take_all 8 found (omega arith))
      ∙ sym (take_all 8 (found ++ offset_at n ∷ []) (omega (arith, length-append found (offset_at n ∷ []))))
      ∙ ap (take 8) (sym (ap (filter p) (offsets_before-more n) ∙ filter_yes (offsets_before n) (offset_at n) here))

  pub first_no : (n : ℕ) (list : List ℤ) → list ≡ take 8 (filter p (offsets_before n)) → p (offset_at n) ≡ false
      → list ≡ take 8 (filter p (offsets_before (n + 1)))
  first_no n list now none = now ∙ ap (take 8) (sym (ap (filter p) (offsets_before-more n) ∙ filter_no (offsets_before n) (offset_at n) none))

  pub first_full : (n : ℕ) (list : List ℤ) → list ≡ take 8 (filter p (offsets_before n)) → 8 ≤ length list
      → list ≡ take 8 (filter p (offsets_before (n + 1)))
  first_full n list now full =
      let found : List ℤ = filter p (offsets_before n) in
      let long : 8 ≤ length found = omega (arith, ap (λ (l : List ℤ). length l) now, length-take 8 found) in
      now ∙ sym (take-append-le 8 found (cond (p (offset_at n)) (offset_at n ∷ []) []) long)
      ∙ ap (take 8) (sym (ap (filter p) (offsets_before-more n) ∙ filter-append p (offsets_before n) (offset_at n ∷ [])))

pub first_none : (p : ℤ → Bool) → [] ≡ take 8 (filter p (offsets_before 0))
unfolding offsets_before
first_none p = refl

-- ---- how many are picked, and where they lie

-- a test and one that fails where it holds pass no more together than there are
apart_few : (p q : ℤ → Bool) → ((d : ℤ) → p d ≡ true → q d ≡ true → ⊥) → (xs : List ℤ) → length (filter p xs) + length (filter q xs) ≤ length xs
apart_few p q apart [] = omega arith
apart_few p q apart (d ∷ xs) = by (apart_few p q apart xs) (p d) (q d) refl refl
  where
    by : length (filter p xs) + length (filter q xs) ≤ length xs → (b c : Bool) → p d ≡ b → q d ≡ c
        → length (cond b (d ∷ filter p xs) (filter p xs)) + length (cond c (d ∷ filter q xs) (filter q xs)) ≤ length (d ∷ xs)
    by rest true true is also = absurd (apart d is also)
    by rest true false is also = omega (arith, rest)
    by rest false true is also = omega (arith, rest)
    by rest false false is also = omega (arith, rest)

early_or_late : (d : ℤ) → int_lt d (pos 0) ≡ true → int_lt (pos 0) d ≡ true → ⊥
early_or_late d is also = grind (arith, ints, is, also)

-- 0 and the first eight others
pub picked_few : (toc : Toc) (blocks : List Block) (rip : List ℕ) → length (picked_offsets toc blocks rip) ≤ 9
unfolding with_zero other_offsets
picked_few toc blocks rip =
    let others : List ℤ = other_offsets toc blocks rip in
    let early : List ℤ = filter (λ d. int_lt d (pos 0)) others in
    let late : List ℤ = filter (λ d. int_lt (pos 0) d) others in
    let few = apart_few (λ d. int_lt d (pos 0)) (λ d. int_lt (pos 0) d) early_or_late others in
    let most = length-take 8 (filter (is_other toc blocks rip) all_offsets) in
    omega (arith, few, most, length-append early (pos 0 ∷ late))

offset_within : (place : ℕ) → place < 5879 → IsMatchOffset (offset_at place)
offset_within place inside =
    elim (cases_lt place 2939) [
      | inl early ↦
          let is : offset_at place ≡ negsuc (2938 - place) = cond-true _ (negsuc (2938 - place)) (pos (place - 2939)) (lt-ltb place 2939 early) in
          subst IsMatchOffset (sym is) (omega (arith, ints), omega (arith, ints))
      | inr late ↦
          let is : offset_at place ≡ pos (place - 2939) = cond-false _ (negsuc (2938 - place)) (pos (place - 2939)) (le-ltb place 2939 late) in
          subst IsMatchOffset (sym is) (omega (arith, ints), omega (arith, ints))
    ]

all_within : All IsMatchOffset all_offsets
unfolding offsets_before
all_within =
    All-map IsMatchOffset offset_at (range_with_len 0 5879)
    (λ i d inside.
    let long : length (range_with_len 0 5879) ≡ 5879 = length-range_with_len 0 5879 in
    let low : i < 5879 = omega (arith, inside, long) in
    let zero_on : 0 + i ≡ i = omega arith in
    let at : i ≡ get_or (range_with_len 0 5879) i d = sym (get_or-range_with_len 0 5879 i d low ∙ zero_on) in
    subst (λ place. IsMatchOffset (offset_at place)) at (offset_within i low))

pub picked_within : (toc : Toc) (blocks : List Block) (rip : List ℕ) → All IsMatchOffset (picked_offsets toc blocks rip)
unfolding with_zero other_offsets
picked_within toc blocks rip =
    let others : List ℤ = other_offsets toc blocks rip in
    let early : List ℤ = filter (λ d. int_lt d (pos 0)) others in
    let late : List ℤ = filter (λ d. int_lt (pos 0) d) others in
    let each : All IsMatchOffset others = All-take IsMatchOffset 8 (filter (is_other toc blocks rip) all_offsets) (All-filter (is_other toc blocks rip) IsMatchOffset all_offsets all_within) in
    All-append IsMatchOffset early (pos 0 ∷ late) (All-filter (λ d. int_lt d (pos 0)) IsMatchOffset others each)
    (All-cons IsMatchOffset (pos 0) late (omega (arith, ints), omega (arith, ints)) (All-filter (λ d. int_lt (pos 0) d) IsMatchOffset others each))
