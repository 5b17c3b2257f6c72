-- The list of matches has each match, no other, and has them in order.
use Rattle.std.proofs.Common.{◌≡◌, ℕ, zero, suc, ◌+◌, ◌-◌, ◌<◌, ◌≤◌, ◌⊎◌, Bool, true, false, cond, List, [], ◌∷◌, ◌++◌, length, map, get_or, Option, None, Some, refl, sym, subst, ap, ap₂, ◌∙◌, arith, inl, inr}
use Rattle.std.specs.Prelude.{ℤ, pos, negsuc, ◌<ℤ◌}
use Rattle.std.specs.List.{AllPairs, Contains, enumerate_from, flat_map, range_with_len}
use Rattle.std.proofs.lemmas.Bool.{cases_lt, cond-false, cond-true, le-ltb, lt-ltb}
use Rattle.std.proofs.lemmas.Int.{ints}
use Rattle.std.proofs.lemmas.List.Elements.{Contains-append_cases, Contains-append_left, Contains-append_right, Contains-get_or}
use Rattle.std.proofs.lemmas.List.Kept.{AllPairs-cons}
use Rattle.accurip_match.specs.declared.block.Block.{Block}
use Rattle.accurip_match.specs.declared.ids.DiscIds.{DiscIds}
use Rattle.accurip_match.specs.declared.listing.Match.{Match}
use Rattle.disc_toc.specs.Toc.{Toc}
use Rattle.accurip_match.specs.Matching.{AreMatches, IsMatch, Precedes, block_matches, is_picked, match_of, offset_matches, place_matches, response_matches, track_matches, v2_matches, v2_where_picked}
use Rattle.accurip_match.specs.Offsets.{all_offsets, offset_at, offsets_before}
use Rattle.accurip_match.specs.Picking.{entry_of, has_sum, ids_of}
use Rattle.disc_ids.specs.Numbers.{tracks}
use Rattle.accurip_match.specs.Shifted.{shifted_sums, v1_at}

-- ---- elements of lists that are joined

cons_cases : {X : Type 0} (x : X) (xs : List X) (y : X) → Contains (x ∷ xs) y → (x ≡ y) ⊎ Contains xs y
cons_cases x xs y (zero, inside, is) = inl is
cons_cases x xs y (suc k, inside, is) = inr (k, omega arith, is)

cons_later : {X : Type 0} (x : X) (xs : List X) (y : X) → Contains xs y → Contains (x ∷ xs) y
cons_later x xs y (k, inside, is) = (suc k, omega arith, is)

none_in : {X : Type 0} (y : X) → Contains [] y → ⊥
none_in y (k, inside, is) = omega arith

joined_in : {X Y : Type 0} (f : X → List Y) (xs : List X) (y : Y) → Contains (flat_map f xs) y → (x : X) × Contains xs x × Contains (f x) y
joined_in f [] y has = absurd (none_in y has)
joined_in f (x ∷ xs) y has =
    elim (Contains-append_cases (f x) (flat_map f xs) y has) [
      | inl here ↦ (x, (zero, omega arith, refl), here)
      | inr later ↦ let found = joined_in f xs y later in (found.0, cons_later x xs found.0 found.1, found.2)
    ]

in_joined : {X Y : Type 0} (f : X → List Y) (xs : List X) (x : X) (y : Y) → Contains xs x → Contains (f x) y → Contains (flat_map f xs) y
in_joined f [] x y has here = absurd (none_in x has)
in_joined f (x' ∷ xs) x y has here =
    elim (cons_cases x' xs x has) [
      | inl same ↦ Contains-append_left (f x') (flat_map f xs) y (subst (λ z. Contains (f z) y) (sym same) here)
      | inr later ↦ Contains-append_right (f x') (flat_map f xs) y (in_joined f xs x y later here)
    ]

-- ---- lists in order

abbrev Ordered : {X : Type 0} → (X → X → Type 0) → List X → Type 0
Ordered R [] = Unit {0}
Ordered {X} R (x ∷ xs) = ((y : X) → Contains xs y → R x y) × Ordered R xs

Ordered-append : {X : Type 0} (R : X → X → Type 0) (xs ys : List X) → Ordered R xs → Ordered R ys → ((x y : X) → Contains xs x → Contains ys y → R x y) → Ordered R (xs ++ ys)
Ordered-append R [] ys one two between = two
Ordered-append R (x ∷ xs) ys one two between = (
  λ y has. elim (Contains-append_cases xs ys y has) [ inl left ↦ one.0 y left | inr right ↦ between x y (zero, omega arith, refl) right ],
  Ordered-append R xs ys one.1 two (λ a b left right. between a b (cons_later x xs a left) right),
)

Ordered-flat_map : {X Y : Type 0} (S : X → X → Type 0) (R : Y → Y → Type 0) (f : X → List Y) (xs : List X) → Ordered S xs → ((x : X) → Ordered R (f x))
    → ((x x' : X) (y y' : Y) → S x x' → Contains (f x) y → Contains (f x') y' → R y y') → Ordered R (flat_map f xs)
Ordered-flat_map S R f [] order each between = tt
Ordered-flat_map S R f (x ∷ xs) order each between =
    Ordered-append R (f x) (flat_map f xs) (each x) (Ordered-flat_map S R f xs order.1 each between)
    (λ y y' here later. let found = joined_in f xs y' later in between x found.0 y y' (order.0 found.0 found.1) here found.2)

pairs_from : {X : Type 0} (R : X → X → Type 0) (xs : List X) → Ordered R xs → AllPairs R xs
pairs_from R [] order = λ i j d before inside. absurd (omega arith)
pairs_from R (x ∷ xs) order = AllPairs-cons R x xs (λ k d inside. order.0 (get_or xs k d) (Contains-get_or xs k d inside)) (pairs_from R xs order.1)

range_above : (a n y : ℕ) → Contains (range_with_len a n) y → a ≤ y
range_above a zero y has = absurd (none_in y has)
range_above a (suc n) y has =
    elim (cons_cases a (range_with_len (a + 1) n) y has) [
      | inl same ↦ omega arith
      | inr later ↦ let above : a + 1 ≤ y = range_above (a + 1) n y later in omega arith
    ]

range_ordered : (a n : ℕ) → Ordered (λ x y. x < y) (range_with_len a n)
range_ordered a zero = tt
range_ordered a (suc n) = (λ y has. let above : a + 1 ≤ y = range_above (a + 1) n y has in omega arith, range_ordered (a + 1) n)

numbers_above : (blocks : List Block) (a : ℕ) (y : ℕ × Block) → Contains (enumerate_from a blocks) y → a ≤ y.0
numbers_above [] a y has = absurd (none_in y has)
numbers_above (block ∷ blocks) a y has =
    elim (cons_cases (a, block) (enumerate_from (a + 1) blocks) y has) [
      | inl same ↦ omega (arith, ap (λ (z : ℕ × Block). z.0) same)
      | inr later ↦ let above : a + 1 ≤ y.0 = numbers_above blocks (a + 1) y later in omega arith
    ]

numbers_ordered : (blocks : List Block) (a : ℕ) → Ordered (λ (x y : ℕ × Block). x.0 < y.0) (enumerate_from a blocks)
numbers_ordered [] a = tt
numbers_ordered (block ∷ blocks) a = (λ y has. let above : a + 1 ≤ y.0 = numbers_above blocks (a + 1) y has in omega arith, numbers_ordered blocks (a + 1))

mapped_in : {X Y : Type 0} (f : X → Y) (xs : List X) (y : Y) → Contains (map f xs) y → (x : X) × Contains xs x × (f x ≡ y)
mapped_in f [] y has = absurd (none_in y has)
mapped_in f (x ∷ xs) y has =
    elim (cons_cases (f x) (map f xs) y has) [
      | inl same ↦ (x, (zero, omega arith, refl), same)
      | inr later ↦ let found = mapped_in f xs y later in (found.0, cons_later x xs found.0 found.1, found.2)
    ]

offset_rising : (a b : ℕ) → a < b → offset_at a <ℤ offset_at b
offset_rising a b below =
    elim (cases_lt a 2939) [
      | inl early ↦
          subst (λ (d : ℤ). d <ℤ offset_at b) (sym (cond-true _ (negsuc (2938 - a)) (pos (a - 2939)) (lt-ltb a 2939 early)))
          (elim (cases_lt b 2939) [
            | inl early' ↦ subst (λ (d : ℤ). negsuc (2938 - a) <ℤ d) (sym (cond-true _ (negsuc (2938 - b)) (pos (b - 2939)) (lt-ltb b 2939 early'))) (omega (arith, ints))
            | inr late' ↦ subst (λ (d : ℤ). negsuc (2938 - a) <ℤ d) (sym (cond-false _ (negsuc (2938 - b)) (pos (b - 2939)) (le-ltb b 2939 late'))) (omega (arith, ints))
          ])
      | inr late ↦
          subst (λ (d : ℤ). d <ℤ offset_at b) (sym (cond-false _ (negsuc (2938 - a)) (pos (a - 2939)) (le-ltb a 2939 late)))
          (subst (λ (d : ℤ). pos (a - 2939) <ℤ d) (sym (cond-false _ (negsuc (2938 - b)) (pos (b - 2939)) (le-ltb b 2939 (omega arith)))) (omega (arith, ints)))
    ]

places_ordered : (a n : ℕ) → Ordered (λ (x y : ℤ). x <ℤ y) (map offset_at (range_with_len a n))
places_ordered a zero = tt
places_ordered a (suc n) = (
  λ d has. let found = mapped_in offset_at (range_with_len (a + 1) n) d has in
      let above : a + 1 ≤ found.0 = range_above (a + 1) n found.0 found.1 in
      subst (λ (e : ℤ). offset_at a <ℤ e) found.2 (offset_rising a found.0 (omega arith)),
  places_ordered (a + 1) n,
)

offsets_ordered : (n : ℕ) → Ordered (λ (x y : ℤ). x <ℤ y) (offsets_before n)
unfolding offsets_before
offsets_ordered n = places_ordered 0 n

-- ---- the matches with a block

chosen : (b : Bool) (x m : Match) → Contains (cond b (x ∷ []) []) m → (b ≡ true) × (x ≡ m)
chosen true x m (zero, inside, is) = (refl, is)
chosen true x m (suc k, inside, is) = absurd (omega arith)
chosen false x m has = absurd (none_in m has)

one_ordered : (b : Bool) (x : Match) → Ordered Precedes (cond b (x ∷ []) [])
one_ordered true x = (λ y has. absurd (none_in y has), tt)
one_ordered false x = tt

match_with : ℕ → ℤ → ℕ → ℕ → Bool → ℕ → Match
match_with t d n confidence v2 sum = record { track = t; offset = d; block = n; confidence = confidence; v2 = v2; sum = sum }

same_match : (a b : Match) → a.track ≡ b.track → a.offset ≡ b.offset → a.block ≡ b.block → a.confidence ≡ b.confidence → a.v2 ≡ b.v2 → a.sum ≡ b.sum → a ≡ b
unfolding match_with
same_match a b track offset block confidence v2 sum =
    ap₂ (λ x y. match_with x y a.block a.confidence a.v2 a.sum) track offset
    ∙ ap₂ (λ x y. match_with b.track b.offset x y a.v2 a.sum) block confidence
    ∙ ap₂ (λ x y. match_with b.track b.offset b.block b.confidence x y) v2 sum

-- a match of a sum with a block
record IsOf (ids : DiscIds) (t : ℕ) (d : ℤ) (v2 : Bool) (s : ℕ) (numbered : ℕ × Block) (m : Match) : Type 0 where
  track : m.track ≡ t
  offset : m.offset ≡ d
  block : m.block ≡ numbered.0
  known : has_sum ids t s numbered.1 ≡ true
  confidence : m.confidence ≡ (entry_of t numbered.1).confidence
  kind : m.v2 ≡ v2
  sum : m.sum ≡ s

is_of : (ids : DiscIds) (t : ℕ) (d : ℤ) (v2 : Bool) (sum : ℕ) (numbered : ℕ × Block) (m : Match) → Contains (match_of ids (record { track = t; offset = d; v2 = v2; sum = sum }) numbered) m → IsOf ids t d v2 sum numbered m
is_of ids t d v2 sum numbered m has =
    let found = chosen (has_sum ids t sum numbered.1) (record { track = t; offset = d; block = numbered.0; confidence = (entry_of t numbered.1).confidence; v2 = v2; sum = sum }) m has in
    record {
      track = sym (ap (λ (m : Match). m.track) found.1);
      offset = sym (ap (λ (m : Match). m.offset) found.1);
      block = sym (ap (λ (m : Match). m.block) found.1);
      known = found.0;
      confidence = sym (ap (λ (m : Match). m.confidence) found.1);
      kind = sym (ap (λ (m : Match). m.v2) found.1);
      sum = sym (ap (λ (m : Match). m.sum) found.1);
    }

of_is : (ids : DiscIds) (t : ℕ) (d : ℤ) (v2 : Bool) (sum : ℕ) (numbered : ℕ × Block) (m : Match) → IsOf ids t d v2 sum numbered m → Contains (match_of ids (record { track = t; offset = d; v2 = v2; sum = sum }) numbered) m
of_is ids t d v2 sum numbered m is =
    let made : Match = record { track = t; offset = d; block = numbered.0; confidence = (entry_of t numbered.1).confidence; v2 = v2; sum = sum } in
    subst (λ (l : List Match). Contains l m) (sym (cond-true _ (made ∷ []) [] is.known))
    (zero, omega arith, same_match made m (sym is.track) (sym is.offset) (sym is.block) (sym is.confidence) (sym is.kind) (sym is.sum))

-- a match of the sum v1, or of the sum v2, where it is sought
abbrev IsEither : DiscIds → ℕ → ℤ → ℕ → Option ℕ → ℕ × Block → Match → Type 0
IsEither ids t d v1 v2 numbered m = IsOf ids t d false v1 numbered m ⊎ ((s : ℕ) × (v2 ≡ Some s) × IsOf ids t d true s numbered m)

block_in : (ids : DiscIds) (t : ℕ) (d : ℤ) (v1 : ℕ) (v2 : Option ℕ) (numbered : ℕ × Block) (m : Match) → Contains (block_matches ids t d v1 v2 numbered) m → IsEither ids t d v1 v2 numbered m
block_in ids t d v1 None numbered m has =
    elim (Contains-append_cases (match_of ids (record { track = t; offset = d; v2 = false; sum = v1 }) numbered) [] m has) [
      | inl one ↦ inl (is_of ids t d false v1 numbered m one)
      | inr none ↦ absurd (none_in m none)
    ]
block_in ids t d v1 (Some s) numbered m has =
    elim (Contains-append_cases (match_of ids (record { track = t; offset = d; v2 = false; sum = v1 }) numbered) (match_of ids (record { track = t; offset = d; v2 = true; sum = s }) numbered) m has) [
      | inl one ↦ inl (is_of ids t d false v1 numbered m one)
      | inr two ↦ inr (s, refl, is_of ids t d true s numbered m two)
    ]

in_block : (ids : DiscIds) (t : ℕ) (d : ℤ) (v1 : ℕ) (v2 : Option ℕ) (numbered : ℕ × Block) (m : Match) → IsEither ids t d v1 v2 numbered m → Contains (block_matches ids t d v1 v2 numbered) m
in_block ids t d v1 v2 numbered m (inl one) =
    Contains-append_left (match_of ids (record { track = t; offset = d; v2 = false; sum = v1 }) numbered) (v2_matches ids t d v2 numbered) m (of_is ids t d false v1 numbered m one)
in_block ids t d v1 v2 numbered m (inr (s, sought, two)) =
    Contains-append_right (match_of ids (record { track = t; offset = d; v2 = false; sum = v1 }) numbered) (v2_matches ids t d v2 numbered) m
    (subst (λ (v : Option ℕ). Contains (v2_matches ids t d v numbered) m) (sym sought) (of_is ids t d true s numbered m two))

block_ordered : (ids : DiscIds) (t : ℕ) (d : ℤ) (v1 : ℕ) (v2 : Option ℕ) (numbered : ℕ × Block) → Ordered Precedes (block_matches ids t d v1 v2 numbered)
block_ordered ids t d v1 None numbered =
    Ordered-append Precedes (match_of ids (record { track = t; offset = d; v2 = false; sum = v1 }) numbered) [] (one_ordered _ _) tt (λ x y here later. absurd (none_in y later))
block_ordered ids t d v1 (Some s) numbered =
    Ordered-append Precedes (match_of ids (record { track = t; offset = d; v2 = false; sum = v1 }) numbered) (match_of ids (record { track = t; offset = d; v2 = true; sum = s }) numbered) (one_ordered _ _) (one_ordered _ _)
    (λ x y here later.
    let a = is_of ids t d false v1 numbered x here in
    let b = is_of ids t d true s numbered y later in
    inr (a.track ∙ sym b.track, inr (a.offset ∙ sym b.offset, inr (a.block ∙ sym b.block, a.kind, b.kind))))

-- ---- the matches of a track at an offset, and all

module _ (toc : Toc) (blocks : List Block) (y : List ℕ) where
  -- a match of track t at the offset d
  abbrev IsHere : ℕ → ℤ → ℕ × Block → Match → Type 0
  IsHere t d numbered m = IsEither (ids_of toc) t d (v1_at toc y t d) (v2_where_picked toc blocks y t d) numbered m

  place_in : (t : ℕ) (d : ℤ) (m : Match) → Contains (place_matches toc blocks y t d) m → (numbered : ℕ × Block) × Contains (enumerate_from 1 blocks) numbered × IsHere t d numbered m
  unfolding place_matches offset_matches
  place_in t d m has =
      let found = joined_in (block_matches (ids_of toc) t d (v1_at toc y t d) (v2_where_picked toc blocks y t d)) (enumerate_from 1 blocks) m has in
      (found.0, found.1, block_in (ids_of toc) t d (v1_at toc y t d) (v2_where_picked toc blocks y t d) found.0 m found.2)

  in_place : (t : ℕ) (d : ℤ) (numbered : ℕ × Block) (m : Match) → Contains (enumerate_from 1 blocks) numbered → IsHere t d numbered m → Contains (place_matches toc blocks y t d) m
  unfolding place_matches offset_matches
  in_place t d numbered m has is =
      in_joined (block_matches (ids_of toc) t d (v1_at toc y t d) (v2_where_picked toc blocks y t d)) (enumerate_from 1 blocks) numbered m has
      (in_block (ids_of toc) t d (v1_at toc y t d) (v2_where_picked toc blocks y t d) numbered m is)

  place_fields : (t : ℕ) (d : ℤ) (numbered : ℕ × Block) (m : Match) → IsHere t d numbered m → (m.track ≡ t) × (m.offset ≡ d) × (m.block ≡ numbered.0)
  place_fields t d numbered m (inl one) = (one.track, one.offset, one.block)
  place_fields t d numbered m (inr (s, sought, two)) = (two.track, two.offset, two.block)

  place_ordered : (t : ℕ) (d : ℤ) → Ordered Precedes (place_matches toc blocks y t d)
  unfolding place_matches offset_matches
  place_ordered t d =
      let ids : DiscIds = ids_of toc in
      let f = block_matches ids t d (v1_at toc y t d) (v2_where_picked toc blocks y t d) in
      Ordered-flat_map (λ (a b : ℕ × Block). a.0 < b.0) Precedes f (enumerate_from 1 blocks) (numbers_ordered blocks 1)
      (block_ordered ids t d (v1_at toc y t d) (v2_where_picked toc blocks y t d))
      (λ a b m m' below here later.
      let one = place_fields t d a m (block_in ids t d (v1_at toc y t d) (v2_where_picked toc blocks y t d) a m here) in
      let two = place_fields t d b m' (block_in ids t d (v1_at toc y t d) (v2_where_picked toc blocks y t d) b m' later) in
      inr (one.0 ∙ sym two.0, inr (one.1 ∙ sym two.1, inl (omega (arith, one.2, two.2)))))

  track_in : (offsets : List ℤ) (t : ℕ) (m : Match) → Contains (track_matches toc blocks y offsets t) m → (d : ℤ) × Contains offsets d × Contains (place_matches toc blocks y t d) m
  unfolding track_matches
  track_in offsets t m has = joined_in (place_matches toc blocks y t) offsets m has

  in_track : (offsets : List ℤ) (t : ℕ) (d : ℤ) (m : Match) → Contains offsets d → Contains (place_matches toc blocks y t d) m → Contains (track_matches toc blocks y offsets t) m
  unfolding track_matches
  in_track offsets t d m has here = in_joined (place_matches toc blocks y t) offsets d m has here

  track_ordered : (n t : ℕ) → Ordered Precedes (track_matches toc blocks y (offsets_before n) t)
  unfolding track_matches
  track_ordered n t =
      Ordered-flat_map (λ (a b : ℤ). a <ℤ b) Precedes (place_matches toc blocks y t) (offsets_before n) (offsets_ordered n) (place_ordered t)
      (λ a b m m' below here later.
      let one = place_in t a m here in
      let two = place_in t b m' later in
      let left = place_fields t a one.0 m one.2 in
      let right = place_fields t b two.0 m' two.2 in
      inr (left.0 ∙ sym right.0, inl (subst (λ (d : ℤ). d <ℤ m'.offset) (sym left.1) (subst (λ (d : ℤ). a <ℤ d) (sym right.1) below))))

  track_of : (offsets : List ℤ) (t : ℕ) (m : Match) → Contains (track_matches toc blocks y offsets t) m → m.track ≡ t
  track_of offsets t m has =
      let found = track_in offsets t m has in
      let here = place_in t found.0 m found.2 in
      (place_fields t found.0 here.0 m here.2).0

  tracks_ordered : (n offsets : ℕ) → Ordered Precedes (flat_map (track_matches toc blocks y (offsets_before offsets)) (range_with_len 1 n))
  tracks_ordered n offsets =
      Ordered-flat_map (λ a b. a < b) Precedes (track_matches toc blocks y (offsets_before offsets)) (range_with_len 1 n) (range_ordered 1 n) (track_ordered offsets)
      (λ a b m m' below here later. inl (omega (arith, track_of (offsets_before offsets) a m here, track_of (offsets_before offsets) b m' later)))

  -- ---- what it is to be one

  picked_some : (b : Bool) (v s : ℕ) → ◌≡◌ {A = Option ℕ} (cond b (Some v) None) (Some s) → (b ≡ true) × (v ≡ s)
  picked_some true v s is = (refl, cc)
  picked_some false v s is = cc

  sought_picked : (t : ℕ) (d : ℤ) (s : ℕ) → v2_where_picked toc blocks y t d ≡ Some s → (is_picked toc blocks y d ≡ true) × ((shifted_sums toc y t d).v2 ≡ s)
  unfolding v2_where_picked
  sought_picked t d s sought = picked_some (is_picked toc blocks y d) (shifted_sums toc y t d).v2 s sought

  picked_sought : (t : ℕ) (d : ℤ) → is_picked toc blocks y d ≡ true → v2_where_picked toc blocks y t d ≡ Some (shifted_sums toc y t d).v2
  unfolding v2_where_picked
  picked_sought t d here = cond-true _ (Some (shifted_sums toc y t d).v2) None here

  match_of_here : (numbered : ℕ × Block) (m : Match) → Contains (tracks toc) m.track → Contains all_offsets m.offset → Contains (enumerate_from 1 blocks) numbered → m.block ≡ numbered.0
      → IsHere m.track m.offset numbered m → IsMatch toc blocks y m
  match_of_here numbered m track offset has at (inl one) = record {
    track = track;
    offset = offset;
    sum = inl (one.kind, one.sum);
    block = (numbered.1, subst (λ (n : ℕ). Contains (enumerate_from 1 blocks) (n, numbered.1)) (sym at) has, ap (λ s. has_sum (ids_of toc) m.track s numbered.1) one.sum ∙ one.known, one.confidence);
  }
  match_of_here numbered m track offset has at (inr (s, sought, two)) =
      let found = sought_picked m.track m.offset s sought in
      record {
        track = track;
        offset = offset;
        sum = inr (two.kind, found.0, two.sum ∙ sym found.1);
        block = (numbered.1, subst (λ (n : ℕ). Contains (enumerate_from 1 blocks) (n, numbered.1)) (sym at) has, ap (λ s. has_sum (ids_of toc) m.track s numbered.1) two.sum ∙ two.known, two.confidence);
      }

  here_of_match : (m : Match) (block : Block)
      → ((m.v2 ≡ false) × (m.sum ≡ v1_at toc y m.track m.offset)) ⊎ ((m.v2 ≡ true) × (is_picked toc blocks y m.offset ≡ true) × (m.sum ≡ (shifted_sums toc y m.track m.offset).v2))
      → has_sum (ids_of toc) m.track m.sum block ≡ true → m.confidence ≡ (entry_of m.track block).confidence → IsHere m.track m.offset (m.block, block) m
  here_of_match m block (inl (kind, is)) known confidence =
      inl (record { track = refl; offset = refl; block = refl; known = ap (λ s. has_sum (ids_of toc) m.track s block) (sym is) ∙ known; confidence = confidence; kind = kind; sum = is })
  here_of_match m block (inr (kind, picked, is)) known confidence =
      inr (
        (shifted_sums toc y m.track m.offset).v2,
        picked_sought m.track m.offset picked,
        record { track = refl; offset = refl; block = refl; known = ap (λ s. has_sum (ids_of toc) m.track s block) (sym is) ∙ known; confidence = confidence; kind = kind; sum = is },
      )

  each_listed : (m : Match) → Contains (response_matches toc blocks y) m → IsMatch toc blocks y m
  unfolding response_matches
  each_listed m has =
      let track = joined_in (track_matches toc blocks y all_offsets) (tracks toc) m has in
      let offset = track_in all_offsets track.0 m track.2 in
      let found = place_in track.0 offset.0 m offset.2 in
      let fields = place_fields track.0 offset.0 found.0 m found.2 in
      match_of_here found.0 m (subst (λ (t : ℕ). Contains (tracks toc) t) (sym fields.0) track.1) (subst (λ (d : ℤ). Contains all_offsets d) (sym fields.1) offset.1) found.1 fields.2
      (subst (λ (t : ℕ). IsHere t m.offset found.0 m) (sym fields.0) (subst (λ (d : ℤ). IsHere track.0 d found.0 m) (sym fields.1) found.2))

  all_listed : (m : Match) → IsMatch toc blocks y m → Contains (response_matches toc blocks y) m
  unfolding response_matches
  all_listed m is =
      in_joined (track_matches toc blocks y all_offsets) (tracks toc) m.track m is.track
      (in_track all_offsets m.track m.offset m is.offset
      (in_place m.track m.offset (m.block, is.block.0) m is.block.1 (here_of_match m is.block.0 is.sum is.block.2 is.block.3)))

  rising_listed : AllPairs Precedes (response_matches toc blocks y)
  unfolding response_matches
  rising_listed = pairs_from Precedes (flat_map (track_matches toc blocks y all_offsets) (tracks toc)) (tracks_ordered (length toc.starts) 5879)

  pub listed : AreMatches toc blocks y (response_matches toc blocks y)
  listed = record { each = each_listed; all = all_listed; rising = rising_listed }

-- ---- at most one list

-- two lists in order with the same members are one
ordered_once : {X : Type 0} (R : X → X → Type 0) → ((x y : X) → R x y → R y x → ⊥) → (xs ys : List X) → Ordered R xs → Ordered R ys
    → ((z : X) → Contains xs z → Contains ys z) → ((z : X) → Contains ys z → Contains xs z) → xs ≡ ys
ordered_once R apart [] [] one two there back = refl
ordered_once R apart [] (y ∷ ys) one two there back = absurd (none_in y (back y (zero, omega arith, refl)))
ordered_once R apart (x ∷ xs) [] one two there back = absurd (none_in x (there x (zero, omega arith, refl)))
ordered_once {X = X} R apart (x ∷ xs) (y ∷ ys) one two there back =
    let same : x ≡ y = elim (cons_cases y ys x (there x (zero, omega arith, refl))) [
      | inl is ↦ sym is
      | inr later ↦ elim (cons_cases x xs y (back y (zero, omega arith, refl))) [ inl is ↦ is | inr after ↦ absurd (apart x y (one.0 y after) (two.0 x later)) ]
    ] in
    let rest : xs ≡ ys = ordered_once R apart xs ys one.1 two.1
    (λ z has. elim (cons_cases y ys z (there z (cons_later x xs z has))) [ inl is ↦ (let own : R x x = subst (λ a. R x a) (sym (same ∙ is)) (one.0 z has) in absurd (apart x x own own)) | inr later ↦ later ])
    (λ z has. elim (cons_cases x xs z (back z (cons_later y ys z has))) [ inl is ↦ (let own : R y y = subst (λ a. R y a) (sym is ∙ same) (two.0 z has) in absurd (apart y y own own)) | inr later ↦ later ]) in
    ap₂ (λ (a : X) (l : List X). a ∷ l) same rest

-- no match comes before one that comes before it
one_way : (a b : Match) → Precedes a b → Precedes b a → ⊥
one_way a b before after = grind (arith, ints, before, after)

ordered_from : (xs : List Match) → AllPairs Precedes xs → Ordered Precedes xs
ordered_from [] pairs = tt
ordered_from (x ∷ xs) pairs = (
  λ y has. subst (λ z. Precedes x z) has.2 (pairs zero (suc has.0) y (omega arith) (omega (arith, has.1))),
  ordered_from xs (λ i j d before inside. pairs (suc i) (suc j) d (omega (arith, before)) (omega (arith, inside))),
)

pub one_list : (toc : Toc) (blocks : List Block) (y : List ℕ) (one two : List Match) → AreMatches toc blocks y one → AreMatches toc blocks y two → one ≡ two
one_list toc blocks y one two is also =
    ordered_once Precedes one_way one two (ordered_from one is.rising) (ordered_from two also.rising) (λ m has. also.all m (is.each m has)) (λ m has. is.all m (also.each m has))
