-- Laws of the offsets at which a rip agrees with a record: what is unique, and how a search finds them one after another.
use Rattle.std.proofs.Common.{◌≡◌, ◌⊎◌, ℕ, ◌+◌, ◌-◌, ◌<◌, ◌≤◌, List, [], ◌∷◌, ◌++◌, length, get_or, arith, inl, inr, refl, sym, ap, subst, ◌∙◌, ℤ, pos, negsuc, ◌<ℤ◌, ◌≤ℤ◌, Option, None, Some, length-append, ◌+ℤ◌}
use Rattle.std.specs.List.{All}
use Rattle.std.proofs.lemmas.Bool.{cases_lt}
use Rattle.std.proofs.lemmas.Int.{ints}
use Rattle.std.proofs.lemmas.List.{ext_get_or, get_or-map, get_or_append_left, length-map}
use Rattle.std.proofs.Math.Seq.{get_or-append_seam}
use Rattle.std.proofs.lemmas.List.Elements.{All-get_or, All-nil, All-push, All-weaker}
use Rattle.error_locator.specs.Roots.{IsRising}
use Rattle.error_locator.proofs.Rising.{rising_fits, rising_low}
use Rattle.column_map.specs.Columns.{IsOffset, WordTable, per_column}
use Rattle.column_map.specs.declared.candidate.Candidate.{Candidate}
use Rattle.column_map.proofs.TableWords.{table_words-same}
use Rattle.image_mender.specs.Seal.{seal_of_words}
use Rattle.offset_search.specs.Near.{AreRising, Fits, HasOffset, IsCandidate, IsFirstNear, damaged_columns, error_count}
use Rattle.offset_search.proofs.NearLaws.{one_damaged_columns, one_error_count}
use Rattle.offset_search.proofs.Scanned.{below_next, has_last, has_more, here_below, lt_cases, rising_more}
use Rattle.offset_search.proofs.TableFits.{one_table}
use Rattle.engine_steps.specs.Steps.{Known}
use Rattle.engine_search.specs.Picking.{LooksAgreeing}
use Rattle.engine_search.specs.Agreement.{Agrees, AreAgreeing, AreAllNear, AreFirstAgreeing, HasSeal, IsAgreeing, IsNearRecord}

-- ---- one offset

-- two of them at one offset are one
pub same_agreeing : (known : Known) (a b : Candidate) → per_column known.sectors ≤ 65535 → IsAgreeing known a → IsAgreeing known b → a.offset ≡ b.offset → a ≡ b
same_agreeing known a b small is also here =
    let c : ℕ = per_column known.sectors in
    let fits : Fits known.count c known.words b.offset known.stored is.table = subst (λ (d : ℤ). Fits known.count c known.words d known.stored is.table) here is.agrees.fits in
    let errors : a.errors ≡ b.errors =
    is.errors ∙ ap (λ d. error_count c known.words d is.table) here ∙ one_error_count known.count c known.words b.offset known.stored is.table also.table small fits also.agrees.fits ∙ sym also.errors in
    let columns : a.columns ≡ b.columns =
    is.columns ∙ ap (λ d. damaged_columns c known.words d is.table) here ∙ one_damaged_columns known.count c known.words b.offset known.stored is.table also.table small fits also.agrees.fits ∙ sym also.columns in
    let at : ℤ → Candidate = λ d. record { offset = d; errors = a.errors; columns = a.columns } in
    let with_errors : ℕ → Candidate = λ n. record { offset = b.offset; errors = n; columns = a.columns } in
    let with_columns : ℕ → Candidate = λ n. record { offset = b.offset; errors = b.errors; columns = n } in
    ap at here ∙ ap with_errors errors ∙ ap with_columns columns

-- ---- lists of them

-- an offset, counted from the first of the range
shifted : ℤ → ℕ
shifted (pos n) = n + 5879
shifted (negsuc n) = 5878 - n

shifted-rises : (a b : ℤ) → IsOffset a → IsOffset b → a <ℤ b → shifted a < shifted b
unfolding shifted
shifted-rises (pos a) (pos b) h k l = omega (arith, ints)
shifted-rises (pos a) (negsuc b) h k l = absurd (omega (arith, ints))
shifted-rises (negsuc a) (pos b) h k l = omega (arith, ints, h.least)
shifted-rises (negsuc a) (negsuc b) h k l = omega (arith, ints, h.least, k.least)

shifted_back : (a b : ℤ) → IsOffset a → IsOffset b → shifted a ≡ shifted b → a ≡ b
unfolding shifted
shifted_back (pos a) (pos b) h k e = let same : a ≡ b = omega arith in ap pos same
shifted_back (pos a) (negsuc b) h k e = absurd (omega (arith, ints, k.least))
shifted_back (negsuc a) (pos b) h k e = absurd (omega (arith, ints, h.least))
shifted_back (negsuc a) (negsuc b) h k e = let same : a ≡ b = omega (arith, ints, h.least, k.least) in ap negsuc same

lt_apart : (a b : ℤ) → a <ℤ b → b <ℤ a → ⊥
lt_apart a b l k = omega (arith, ints)

no_candidate : Candidate
no_candidate = record { offset = pos 0; errors = 0; columns = 0 }

offset_at : List Candidate → ℕ → ℤ
offset_at found i = (get_or found i no_candidate).offset

index_of : (found : List Candidate) (d : ℤ) → HasOffset found d → (i : ℕ) × (i < length found) × (offset_at found i ≡ d)
unfolding offset_at
index_of found d has =
    let inside : has.0 < length found = omega (arith, has.1, length-map {B = ℤ} found (λ at. at.offset)) in
    (has.0, inside, sym (get_or-map (λ at. at.offset) found has.0 no_candidate d inside) ∙ has.2)

module _ (known : Known) where
  candidate_at : (found : List Candidate) (i : ℕ) → All (IsAgreeing known) found → i < length found → IsAgreeing known (get_or found i no_candidate)
  candidate_at found i each l = All-get_or (IsAgreeing known) found i no_candidate l each

  offset_in : (found : List Candidate) (i : ℕ) → All (IsAgreeing known) found → i < length found → IsOffset (offset_at found i)
  unfolding offset_at
  offset_in found i each l = (candidate_at found i each l).offset

  agrees_there : (found : List Candidate) (i : ℕ) → All (IsAgreeing known) found → i < length found → Agrees known (offset_at found i)
  unfolding offset_at
  agrees_there found i each l = let at : IsAgreeing known (get_or found i no_candidate) = candidate_at found i each l in (at.table, at.agrees)

  rises : (found : List Candidate) → AreRising found → All (IsAgreeing known) found → IsRising (length found) (λ i. shifted (offset_at found i))
  unfolding offset_at
  rises found rising each i j l jl =
      shifted-rises (offset_at found i) (offset_at found j) (offset_in found i each (omega arith)) (offset_in found j each jl) (rising i j no_candidate l jl)

  below_at : (found : List Candidate) (d : ℤ) (i : ℕ) → All (λ at. at.offset <ℤ d) found → i < length found → offset_at found i <ℤ d
  unfolding offset_at
  below_at found d i below l = All-get_or (λ at. at.offset <ℤ d) found i no_candidate l below

  module _ (limit : ℕ) (found other : List Candidate) (are : AreFirstAgreeing limit known found) (also : AreFirstAgreeing limit known other) where
    -- where the other list is full and below a candidate of the first, each of its offsets is one of the first's before that one
    earlier : (i : ℕ) → i < length found → All (λ at. at.offset <ℤ offset_at found i) other → (a : ℕ) → a < length other
        → (j : ℕ) × (j < i) × (shifted (offset_at found j) ≡ shifted (offset_at other a))
    earlier i l below a al =
        let low : offset_at other a <ℤ offset_at found i = below_at other (offset_at found i) a below al in
        elim (are.all (offset_at other a) (offset_in other a also.each al) (agrees_there other a also.each al)) [
          | inl has ↦
              let at = index_of found (offset_at other a) has in
              let same : shifted (offset_at found at.0) ≡ shifted (offset_at other a) = ap shifted at.2 in
              let less : shifted (offset_at other a) < shifted (offset_at found i) =
              shifted-rises (offset_at other a) (offset_at found i) (offset_in other a also.each al) (offset_in found i are.each l) low in (
                at.0,
                elim (cases_lt at.0 i) [
                  | inl before ↦ before
                  | inr from ↦ elim (cases_lt i at.0) [
                    | inl past ↦ absurd (let up : shifted (offset_at found i) < shifted (offset_at found at.0) = rises found are.rising are.each i at.0 past at.1 in omega arith)
                    | inr upto ↦ absurd (let one : i ≡ at.0 = omega arith in let equal : shifted (offset_at found i) ≡ shifted (offset_at found at.0) = ap (λ i. shifted (offset_at found i)) one in omega arith)
                  ]
                ],
                same,
              )
          | inr full ↦ absurd (lt_apart (offset_at found i) (offset_at other a) (below_at found (offset_at other a) i full.1 l) low)
        ]

    -- each candidate's offset is among the other's
    among : (i : ℕ) → i < length found → (j : ℕ) × (j < length other) × (shifted (offset_at other j) ≡ shifted (offset_at found i))
    among i l =
        elim (also.all (offset_at found i) (offset_in found i are.each l) (agrees_there found i are.each l)) [
          | inl has ↦ (let at = index_of other (offset_at found i) has in (at.0, at.1, ap shifted at.2))
          | inr full ↦
              let before : IsRising i (λ i. shifted (offset_at found i)) = λ a b al bl. rises found are.rising are.each a b al (omega arith) in
              let fits : length other ≤ i =
              rising_fits (length other) i (λ i. shifted (offset_at other i)) (λ i. shifted (offset_at found i)) (rises other also.rising also.each) before (earlier i l full.1) in
              absurd (omega (arith, full.0, are.few))
        ]

  -- two lists of the first are one
  pub one_first_agreeing : (limit : ℕ) (found other : List Candidate) → per_column known.sectors ≤ 65535 → AreFirstAgreeing limit known found → AreFirstAgreeing limit known other → found ≡ other
  unfolding offset_at
  one_first_agreeing limit found other small are also =
      let up : IsRising (length found) (λ i. shifted (offset_at found i)) = rises found are.rising are.each in
      let up_too : IsRising (length other) (λ i. shifted (offset_at other i)) = rises other also.rising also.each in
      let all : (i : ℕ) → i < length found → (j : ℕ) × (j < length other) × (shifted (offset_at other j) ≡ shifted (offset_at found i)) = among limit found other are also in
      let back : (i : ℕ) → i < length other → (j : ℕ) × (j < length found) × (shifted (offset_at found j) ≡ shifted (offset_at other i)) = among limit other found also are in
      let more : length found ≤ length other = rising_fits (length found) (length other) (λ i. shifted (offset_at found i)) (λ i. shifted (offset_at other i)) up up_too all in
      let less : length other ≤ length found = rising_fits (length other) (length found) (λ i. shifted (offset_at other i)) (λ i. shifted (offset_at found i)) up_too up back in
      ext_get_or no_candidate found other (omega arith)
      (λ i l.
      let low : i < length other = omega arith in
      let le : shifted (offset_at other i) ≤ shifted (offset_at found i) =
      rising_low (length found) (length other) (λ i. shifted (offset_at found i)) (λ i. shifted (offset_at other i)) up up_too all i l in
      let ge : shifted (offset_at found i) ≤ shifted (offset_at other i) =
      rising_low (length other) (length found) (λ i. shifted (offset_at other i)) (λ i. shifted (offset_at found i)) up_too up back i low in
      same_agreeing known (get_or found i no_candidate) (get_or other i no_candidate) small (candidate_at found i are.each l) (candidate_at other i also.each low)
      (shifted_back (offset_at found i) (offset_at other i) (offset_in found i are.each l) (offset_in other i also.each low) (omega arith)))

  -- all are the first ones of any limit that they fit
  pub first_from_all : (limit : ℕ) (found : List Candidate) → length found ≤ limit → AreAgreeing known found → AreFirstAgreeing limit known found
  first_from_all limit found few are = record {
    few = few;
    rising = are.rising;
    each = are.each;
    all = λ d offset near. inl (are.all d offset near);
  }

  -- two lists of all are one
  pub one_agreeing : (found other : List Candidate) → per_column known.sectors ≤ 65535 → AreAgreeing known found → AreAgreeing known other → found ≡ other
  one_agreeing found other small are also =
      one_first_agreeing (length found + length other) found other small
      (first_from_all (length found + length other) found (omega arith) are) (first_from_all (length found + length other) other (omega arith) also)

  -- first ones that are fewer than the limit are all
  pub all_from_few : (limit : ℕ) (found : List Candidate) → length found < limit → AreFirstAgreeing limit known found → AreAgreeing known found
  all_from_few limit found few are = record {
    rising = are.rising;
    each = are.each;
    all = λ d offset near. elim (are.all d offset near) [
      | inl has ↦ has
      | inr full ↦ absurd (omega (arith, full.0))
    ];
  }

-- ---- a search, offset by offset

-- all of them that are below an offset, rising
pub record AreFoundBelow (known : Known) (from : ℤ) (found : List Candidate) : Type 0 where
  pub rising : AreRising found
  pub each : All (IsAgreeing known) found
  pub below : All (λ at. at.offset <ℤ from) found
  pub all : (d : ℤ) → IsOffset d → d <ℤ from → Agrees known d → HasOffset found d

-- offsets of the range at which the rip is near the record, rising, and all of them below an offset
pub record AreNearBelow (known : Known) (from : ℤ) (near : List ℤ) : Type 0 where
  pub rising : (i k : ℕ) (d : ℤ) → i < k → k < length near → get_or near i d <ℤ get_or near k d
  pub each : All (λ d. IsOffset d × IsNearRecord known d) near
  pub below : All (λ d. d <ℤ from) near

-- a table that fits agrees with the near offset that it is of
pub agrees_near : (known : Known) (d : ℤ) → Agrees known d → IsNearRecord known d
agrees_near known d agrees = (agrees.0, agrees.1.fits)

lt_le : (a b c : ℤ) → a <ℤ b → b ≤ℤ c → a <ℤ c
lt_le a b c l k = omega (arith, ints)

before_next : (a d : ℤ) → a ≤ℤ d → a <ℤ (d +ℤ pos 1)
before_next a d l = omega (arith, ints)

up_to : (a d e : ℤ) → e ≡ d +ℤ pos 1 → a <ℤ e → a ≤ℤ d
up_to a d e next l = omega (arith, ints)

upto_next : (a d e : ℤ) → e ≡ d +ℤ pos 1 → a ≤ℤ d → a ≤ℤ e
upto_next a d e next l = omega (arith, ints)

upto_cases : (a d : ℤ) → a ≤ℤ d → (a <ℤ d) ⊎ (a ≡ d)
upto_cases a d l = elim (lt_cases a d) [
  | inl low ↦ inl low
  | inr high ↦ inr (let same : a ≡ d = omega (arith, ints) in same)
]

module _ (known : Known) where
  -- nothing is found before the range
  pub found_none : (found : List Candidate) (from : ℤ) → found ≡ [] → from ≡ negsuc 5878 → AreFoundBelow known from found
  found_none found from none first =
      subst (λ (found : List Candidate). AreFoundBelow known from found) (sym none)
      (record {
        rising = λ i k at l kl. absurd (omega arith);
        each = All-nil (IsAgreeing known);
        below = All-nil (λ at. at.offset <ℤ from);
        all = λ e offset low agrees. absurd (omega (arith, ints, offset.least));
      })

  -- where the rip agrees at no offset up to another, that one is passed
  pub found_kept : (from to : ℤ) (found : List Candidate) → from ≤ℤ to → AreFoundBelow known from found
      → ((e : ℤ) → IsOffset e → from ≤ℤ e → e <ℤ to → Agrees known e → ⊥) → AreFoundBelow known to found
  found_kept from to found more so none = record {
    rising = so.rising;
    each = so.each;
    below = All-weaker (λ at. at.offset <ℤ from) (λ at. at.offset <ℤ to) (λ at low. lt_le at.offset from to low more) found so.below;
    all = λ e offset low agrees. elim (lt_cases e from) [
      | inl early ↦ so.all e offset early agrees
      | inr late ↦ absurd (none e offset late low agrees)
    ];
  }

  -- one more is found
  pub found_more : (from to : ℤ) (found : List Candidate) (at : Candidate) → from ≤ℤ at.offset → to ≡ at.offset +ℤ pos 1 → AreFoundBelow known from found
      → ((e : ℤ) → IsOffset e → from ≤ℤ e → e <ℤ at.offset → Agrees known e → ⊥) → IsAgreeing known at → AreFoundBelow known to (found ++ at ∷ [])
  found_more from to found at more next so none own =
      let kept : AreFoundBelow known at.offset found = found_kept from at.offset found more so none in
      record {
        rising = rising_more at.offset found at so.rising kept.below refl;
        each = All-push (IsAgreeing known) found at so.each own;
        below = All-push (λ at. at.offset <ℤ to) found at (All-weaker (λ a. a.offset <ℤ at.offset) (λ a. a.offset <ℤ to) (λ a low. below_next a.offset at.offset to next low) found kept.below) (here_below at.offset at.offset to next refl);
        all = λ e offset low agrees. elim (upto_cases e at.offset (up_to e at.offset to next low)) [
          | inl early ↦ has_more found at e (kept.all e offset early agrees)
          | inr here ↦ has_last found at e (sym here)
        ];
      }

  -- a search that has come to its limit or to the range's end
  pub found_first : (limit : ℕ) (from : ℤ) (found : List Candidate) → length found ≤ limit → (pos 5879 <ℤ from) ⊎ (limit ≤ length found) → AreFoundBelow known from found
      → AreFirstAgreeing limit known found
  found_first limit from found few ended so = record {
    few = few;
    rising = so.rising;
    each = so.each;
    all = λ e offset agrees. elim (lt_cases e from) [
      | inl early ↦ inl (so.all e offset early agrees)
      | inr late ↦ elim ended [
        | inl past ↦ absurd (omega (arith, ints, offset.most))
        | inr full ↦ inr ((let same : length found ≡ limit = omega arith in same), All-weaker (λ at. at.offset <ℤ from) (λ at. at.offset <ℤ e) (λ at low. lt_le at.offset from e low late) found so.below)
      ]
    ];
  }

  -- no near offset was looked at
  pub near_none : (near : List ℤ) (from : ℤ) → near ≡ [] → AreNearBelow known from near
  near_none near from none =
      subst (λ (near : List ℤ). AreNearBelow known from near) (sym none)
      (record {
        rising = λ i k d l kl. absurd (omega arith);
        each = All-nil (λ d. IsOffset d × IsNearRecord known d);
        below = All-nil (λ d. d <ℤ from);
      })

  pub near_kept : (from to : ℤ) (near : List ℤ) → from ≤ℤ to → AreNearBelow known from near → AreNearBelow known to near
  near_kept from to near more so = record {
    rising = so.rising;
    each = so.each;
    below = All-weaker (λ d. d <ℤ from) (λ d. d <ℤ to) (λ d low. lt_le d from to low more) near so.below;
  }

  -- one more was
  pub near_more : (from to : ℤ) (near : List ℤ) (d : ℤ) → from ≤ℤ d → to ≡ d +ℤ pos 1 → AreNearBelow known from near → IsOffset d → IsNearRecord known d → AreNearBelow known to (near ++ d ∷ [])
  near_more from to near d more next so offset is = record {
    rising = λ i k e l kl. elim (cases_lt k (length near)) [
      | inl inside ↦ rw (get_or_append_left near (d ∷ []) e i (omega arith), get_or_append_left near (d ∷ []) e k inside) (so.rising i k e l inside)
      | inr past ↦
          let low : i < length near = omega (arith, length-append near (d ∷ [])) in
          let last : k ≡ length near = omega (arith, length-append near (d ∷ [])) in
          rw (get_or_append_left near (d ∷ []) e i low, last, get_or-append_seam near d [] e) (lt_le (get_or near i e) from d (All-get_or (λ d. d <ℤ from) near i e low so.below) more)
    ];
    each = All-push (λ d. IsOffset d × IsNearRecord known d) near d so.each (offset, is);
    below = All-push (λ d. d <ℤ to) near d (All-weaker (λ e. e <ℤ from) (λ e. e <ℤ to) (λ e low. below_next e d to next (lt_le e from d low more)) near so.below) (here_below d d to next refl);
  }

  -- no more near offsets were looked at than there are
  pub near_few : (from : ℤ) (near : List ℤ) (all : List Candidate) → AreNearBelow known from near → AreAllNear known all → length near ≤ length all
  unfolding offset_at
  near_few from near all so are =
      let at : ℕ → ℤ = λ i. get_or near i (pos 0) in
      let own : (i : ℕ) → i < length near → IsOffset (at i) × IsNearRecord known (at i) = λ i l. All-get_or (λ d. IsOffset d × IsNearRecord known d) near i (pos 0) l so.each in
      let listed : (i : ℕ) → i < length all → IsOffset (offset_at all i) = λ i l. (All-get_or (IsCandidate known.count (per_column known.sectors) known.words known.stored) all i no_candidate l are.each).offset in
      let up : IsRising (length near) (λ i. shifted (at i)) = λ i k l kl. shifted-rises (at i) (at k) (own i (omega arith)).0 (own k kl).0 (so.rising i k (pos 0) l kl) in
      let up_too : IsRising (length all) (λ i. shifted (offset_at all i)) = λ i k l kl. shifted-rises (offset_at all i) (offset_at all k) (listed i (omega arith)) (listed k kl) (are.rising i k no_candidate l kl) in
      rising_fits (length near) (length all) (λ i. shifted (at i)) (λ i. shifted (offset_at all i)) up up_too
      (λ i l. let found = index_of all (at i) (are.all (at i) (own i l).0 (own i l).1) in (found.0, found.1, ap shifted found.2))

-- what holds of each that was found holds after one more
pub added_near : (P : Candidate → Type 0) (old new : List Candidate) (at : Candidate) → All P old → P at → (new ≡ old) ⊎ (new ≡ old ++ at ∷ []) → All P new
added_near P old new at each own adds = elim adds [
  | inl same ↦ subst (All P) (sym same) each
  | inr more ↦ subst (All P) (sym more) (All-push P old at each own)
]

-- tables that fit at one offset have one seal
pub same_seal : (known : Known) (d : ℤ) (table other : WordTable) → per_column known.sectors ≤ 65535 → Fits known.count (per_column known.sectors) known.words d known.stored table
    → Fits known.count (per_column known.sectors) known.words d known.stored other → HasSeal known.seal (per_column known.sectors) other → HasSeal known.seal (per_column known.sectors) table
same_seal known d table other small fits also has = by known.seal has
  where
    by : (seal : Option (List ℕ)) → HasSeal seal (per_column known.sectors) other → HasSeal seal (per_column known.sectors) table
    by None has = tt
    by (Some seal) has = ap seal_of_words (table_words-same (per_column known.sectors) table other (one_table known.count (per_column known.sectors) known.words d known.stored table other small fits also)) ∙ has

-- ---- a look at the first near offset from one on

module _ (known : Known) (small : per_column known.sectors ≤ 65535) where
  -- a candidate at which the rip agrees
  pub agreeing_of : (at : Candidate) → IsCandidate known.count (per_column known.sectors) known.words known.stored at → Agrees known at.offset → IsAgreeing known at
  agreeing_of at candidate agrees = record {
    offset = candidate.offset;
    table = candidate.table;
    agrees = record { fits = candidate.fits; sealed = same_seal known at.offset candidate.table agrees.0 small candidate.fits agrees.1.fits agrees.1.sealed };
    errors = candidate.errors;
    columns = candidate.columns;
  }

  module _ (from to : ℤ) (found : List Candidate) (at : Candidate) (first : IsFirstNear known.count (per_column known.sectors) known.words known.stored from at) (next : to ≡ at.offset +ℤ pos 1) (so : AreFoundBelow known from found) where
    found_there : Agrees known at.offset → AreFoundBelow known to (found ++ at ∷ [])
    found_there agrees =
        found_more known from to found at first.later next so (λ e offset late low agrees. first.first e offset late low (agrees_near known e agrees)) (agreeing_of at first.candidate agrees)

    not_found_there : (Agrees known at.offset → ⊥) → AreFoundBelow known to found
    not_found_there not = found_kept known from to found (upto_next from at.offset to next first.later) so (λ e offset late low agrees.
        elim (upto_cases e at.offset (up_to e at.offset to next low)) [
          | inl early ↦ first.first e offset late early (agrees_near known e agrees)
          | inr here ↦ not (subst (Agrees known) here agrees)
        ])

  -- what a look there finds
  pub looked_at : (from to : ℤ) (found new : List Candidate) (at : Candidate) → IsFirstNear known.count (per_column known.sectors) known.words known.stored from at → to ≡ at.offset +ℤ pos 1 → AreFoundBelow known from found
      → LooksAgreeing known at found new → AreFoundBelow known to new
  looked_at from to found new at first next so looks = elim looks [
    | inl has ↦ subst (λ (list : List Candidate). AreFoundBelow known to list) (sym has.1) (found_there from to found at first next so has.0)
    | inr not ↦ subst (λ (list : List Candidate). AreFoundBelow known to list) (sym not.1) (not_found_there from to found at first next so not.0)
  ]

  -- where no near offset is left
  pub found_last : (limit : ℕ) (from : ℤ) (found : List Candidate) → length found ≤ limit → AreFoundBelow known from found → ((e : ℤ) → IsOffset e → from ≤ℤ e → IsNearRecord known e → ⊥) → AreFirstAgreeing limit known found
  found_last limit from found few so none = record {
    few = few;
    rising = so.rising;
    each = so.each;
    all = λ e offset agrees. elim (lt_cases e from) [
      | inl early ↦ inl (so.all e offset early agrees)
      | inr late ↦ absurd (none e offset late (agrees_near known e agrees))
    ];
  }
