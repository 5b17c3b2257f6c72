-- What is picked, by what a search finds, and what is mended there.
use Rattle.std.proofs.Common.{◌≡◌, ◌∙◌, ◌≤◌, ◌⊎◌, ℕ, List, [], ◌∷◌, length, Option, None, Some, Result, Ok, Err, refl, sym, ap, ap₂, inl, inr, arith, ℤ, ◌+◌, ◌*◌, ◌<◌, IfOk, IfSome, All, get_or, w32, pos, negsuc, to_z, of_z, FitsSigned, zero, suc, subst, ◌<ℤ◌, ◌≤ℤ◌, ◌+ℤ◌, ◌-◌}
use Rattle.column_map.specs.Columns.{IsCovered, IsOffset, WordTable, per_column, IsSectorCount, stride}
use Rattle.std.proofs.lemmas.List.{get_or-map, length-map}
use Rattle.std.proofs.lemmas.List.Elements.{All-from_get_or, All-get_or, All-weaker}
use Rattle.column_map.specs.declared.candidate.Candidate.{Candidate}
use Rattle.column_map.proofs.MendingLaws.{mended_one, place_inside}
use Rattle.offset_search.specs.Near.{Fits, HasOffset}
use Rattle.offset_search.proofs.Counting.{unfit_far}
use Rattle.offset_search.proofs.TableFits.{one_table}
use Rattle.offset_search.proofs.NearLaws.{one_first_unfit}
use Rattle.engine_search.proofs.AgreementLaws.{all_from_few, agrees_near, first_from_all, one_agreeing, one_first_agreeing, same_agreeing, same_seal}
use Rattle.rip_report.specs.declared.status.Status.{Status}
use Rattle.rip_report.specs.declared.status.Status.TheVariants.{NoCandidate, Several, NotNear, SealDiffers, Done}
use Rattle.engine_steps.specs.Steps.{Known, Meets}
use Rattle.engine_search.specs.Agreement.{Agrees, AreAgreeing, AreFirstAgreeing, IsAgreeing, IsFirstUnmended, IsNearRecord}
use Rattle.engine_search.specs.Picking.{AreMended, Picks, LieInColumns, Mends, PicksCompared, IsChosen, IsOffsetToMend}
use Rattle.rip_outside.specs.Files.{Files}
use Rattle.std.proofs.lemmas.Result.{IfOk-weaker}
use Rattle.column_map.specs.Mending.{AreFixes, IsFix, places}
use Rattle.column_map.specs.declared.candidate.Fix.{Fix}
use Rattle.image_mender.specs.Patched.{patched}
use Rattle.image_mender.proofs.MendedLaws.{patched_mended, places_inside}
use Rattle.engine_steps.specs.Comparing.{both_of, known_of}
use Rattle.engine_steps.specs.declared.comparing.Compared.{Compared}
use Rattle.engine_search.specs.declared.picking.Picked.{Picked}
use Rattle.engine_steps.specs.declared.steps.Stop.{Stop}
use Rattle.std.proofs.lemmas.Int.{ints, to_z-of_z}

-- ---- at most one answer is picked

-- the answers that may be given
pub given_is : (d : ℤ) (known : Known) (p : Result Candidate Status) → Picks (Some d) known p
    → ((at : Candidate) × (p ≡ Ok at) × (at.offset ≡ d) × IsAgreeing known at)
    ⊎ ((column : ℕ) × (p ≡ Err (NotNear column)) × IsFirstUnmended known d column)
    ⊎ ((p ≡ Err SealDiffers) × IsNearRecord known d × (Agrees known d → ⊥))
given_is d known (Ok at) picks = inl (at, refl, picks.0, picks.1)
given_is d known (Err (NotNear column)) picks = inr (inl (column, refl, picks))
given_is d known (Err SealDiffers) picks = inr (inr (refl, picks.0, picks.1))
given_is d known (Err _) picks = absurd picks

pub sole_is : (known : Known) (p : Result Candidate Status) → Picks None known p
    → ((at : Candidate) × (p ≡ Ok at) × AreAgreeing known (at ∷ []))
    ⊎ ((p ≡ Err NoCandidate) × AreAgreeing known [])
    ⊎ ((a : Candidate) × (b : Candidate) × (p ≡ Err (Several a.offset b.offset)) × AreFirstAgreeing 2 known (a ∷ (b ∷ [])))
sole_is known (Ok at) picks = inl (at, refl, picks)
sole_is known (Err NoCandidate) picks = inr (inl (refl, picks))
sole_is known (Err (Several first second)) picks = inr (inr (picks.0, picks.1, ap₂ (λ x y. Err (Several x y)) (sym picks.3) (sym picks.4), picks.2))
sole_is known (Err _) picks = absurd picks

module _ (known : Known) (small : per_column known.sectors ≤ 65535) where
  pub picks_one : (offset : Option ℤ) (p q : Result Candidate Status) → Picks offset known p → Picks offset known q → p ≡ q
  picks_one (Some d) p q is also = elim (given_is d known p is) [
    | inl a ↦ elim (given_is d known q also) [
      | inl b ↦ a.1 ∙ ap Ok (same_agreeing known a.0 b.0 small a.3 b.3 (a.2 ∙ sym b.2)) ∙ sym b.1
      | inr rest ↦ elim rest [
        | inl b ↦ absurd (unfit_far b.2 (agrees_near known d (agrees_there a.0 a.2 a.3)))
        | inr b ↦ absurd (b.2 (agrees_there a.0 a.2 a.3))
      ]
    ]
    | inr left ↦ elim left [
      | inl a ↦ elim (given_is d known q also) [
        | inl b ↦ absurd (unfit_far a.2 (agrees_near known d (agrees_there b.0 b.2 b.3)))
        | inr rest ↦ elim rest [
          | inl b ↦ a.1 ∙ ap (λ column. Err (NotNear column)) (one_first_unfit a.2 b.2) ∙ sym b.1
          | inr b ↦ absurd (unfit_far a.2 b.1)
        ]
      ]
      | inr a ↦ elim (given_is d known q also) [
        | inl b ↦ absurd (a.2 (agrees_there b.0 b.2 b.3))
        | inr rest ↦ elim rest [
          | inl b ↦ absurd (unfit_far b.2 a.1)
          | inr b ↦ a.0 ∙ sym b.0
        ]
      ]
    ]
  ]
    where
      agrees_there : (at : Candidate) → at.offset ≡ d → IsAgreeing known at → Agrees known d
      agrees_there at same is = let agrees : Agrees known at.offset = (is.table, is.agrees) in rw same at agrees
  picks_one None p q is also = elim (sole_is known p is) [
    | inl a ↦ elim (sole_is known q also) [
      | inl b ↦ a.1 ∙ (let same : a.0 ∷ [] ≡ b.0 ∷ [] = all_one (a.0 ∷ []) (b.0 ∷ []) a.2 b.2 in let at : a.0 ≡ b.0 = cc in ap Ok at) ∙ sym b.1
      | inr rest ↦ elim rest [
        | inl b ↦ let same : a.0 ∷ [] ≡ [] = all_one (a.0 ∷ []) [] a.2 b.1 in let no : ⊥ = cc in absurd no
        | inr b ↦ let same : a.0 ∷ [] ≡ b.0 ∷ (b.1 ∷ []) = first_one (a.0 ∷ []) (b.0 ∷ (b.1 ∷ [])) (first_of_all (a.0 ∷ []) (omega arith) a.2) b.3 in let no : ⊥ = cc in absurd no
      ]
    ]
    | inr rest ↦ elim rest [
      | inl a ↦ elim (sole_is known q also) [
        | inl b ↦ let same : [] ≡ b.0 ∷ [] = all_one [] (b.0 ∷ []) a.1 b.2 in let no : ⊥ = cc in absurd no
        | inr more ↦ elim more [
          | inl b ↦ a.0 ∙ sym b.0
          | inr b ↦ let same : [] ≡ b.0 ∷ (b.1 ∷ []) = first_one [] (b.0 ∷ (b.1 ∷ [])) (first_of_all [] (omega arith) a.1) b.3 in let no : ⊥ = cc in absurd no
        ]
      ]
      | inr a ↦ elim (sole_is known q also) [
        | inl b ↦ let same : a.0 ∷ (a.1 ∷ []) ≡ b.0 ∷ [] = first_one (a.0 ∷ (a.1 ∷ [])) (b.0 ∷ []) a.3 (first_of_all (b.0 ∷ []) (omega arith) b.2) in let no : ⊥ = cc in absurd no
        | inr more ↦ elim more [
          | inl b ↦ let same : a.0 ∷ (a.1 ∷ []) ≡ [] = first_one (a.0 ∷ (a.1 ∷ [])) [] a.3 (first_of_all [] (omega arith) b.1) in let no : ⊥ = cc in absurd no
          | inr b ↦
              let same : a.0 ∷ (a.1 ∷ []) ≡ b.0 ∷ (b.1 ∷ []) = first_one (a.0 ∷ (a.1 ∷ [])) (b.0 ∷ (b.1 ∷ [])) a.3 b.3 in
              let one : a.0 ≡ b.0 = cc in
              let two : a.1 ≡ b.1 = cc in
              a.2 ∙ ap₂ (λ x y. Err (Several x y)) (ap (λ (at : Candidate). at.offset) one) (ap (λ (at : Candidate). at.offset) two) ∙ sym b.2
        ]
      ]
    ]
  ]
    where
      all_one : (found other : List Candidate) → AreAgreeing known found → AreAgreeing known other → found ≡ other
      all_one found other is also = one_agreeing known found other small is also

      first_one : (found other : List Candidate) → AreFirstAgreeing 2 known found → AreFirstAgreeing 2 known other → found ≡ other
      first_one found other is also = one_first_agreeing known 2 found other small is also

      first_of_all : (found : List Candidate) → length found ≤ 2 → AreAgreeing known found → AreFirstAgreeing 2 known found
      first_of_all found few is = first_from_all known 2 found few is

  -- and at most one mended rip
  pub mended_once : (d : ℤ) (mended other : List ℕ) → IsOffset d → AreMended known d mended → AreMended known d other → mended ≡ other
  mended_once d mended other offset is also =
      mended_one (per_column known.sectors) known.words d is.0 also.0 mended other offset
      (one_table known.count (per_column known.sectors) known.words d known.stored is.0 also.0 small is.1.fits also.1.fits) is.2 also.2

-- ---- what is mended

module _ (known : Known) (at : Candidate) (fixes : List Fix) (range : IsSectorCount known.sectors) (long : length known.words ≡ 1176 * known.sectors) (offset : IsOffset at.offset) (mends : Mends known at fixes) where
  enough : (per_column known.sectors + 2) * stride ≤ length known.words
  enough = let low : 30 ≤ known.sectors = range.0 in omega arith

  -- the fixes lie in the rip
  pub fixes_lie : All (λ place. place < length known.words) (places fixes)
  fixes_lie = places_inside (per_column known.sectors) known.words at.offset mends.0 fixes offset enough mends.2

  -- and mend it
  pub fixes_mend : AreMended known at.offset (patched fixes known.words)
  fixes_mend = (mends.0, mends.1, patched_mended (per_column known.sectors) known.words at.offset mends.0 fixes offset enough mends.2)

-- ---- a candidate that was picked

pub picked_candidate : (offset : Option ℤ) (known : Known) (at : Candidate) → Picks offset known (Ok at) → IsAgreeing known at
picked_candidate None known at all = all.each 0 at (omega arith)
picked_candidate (Some d) known at picks = picks.1

-- its offset is one of the range, and the rip is near the record there
pub picked_offset : (offset : Option ℤ) (known : Known) (at : Candidate) → Picks offset known (Ok at) → IsOffset at.offset
picked_offset offset known at picks = (picked_candidate offset known at picks).offset

-- fixes by a table stand in columns
pub fixes_covered : (c : ℕ) (rip : List ℕ) (d : ℤ) (table : WordTable) (fixes : List Fix) → IsOffset d → AreFixes c rip d table fixes → LieInColumns c d fixes
fixes_covered c rip d table fixes offset are = record {
  offset = offset;
  rising = are.rising;
  covered = All-from_get_or (λ place. IsCovered c d place) (places fixes) 0 (λ i below.
      let low : i < length fixes = omega (arith, below, length-map {B = ℕ} fixes (λ (fix : Fix). fix.place)) in
      let fix = All-get_or (IsFix c rip d table) fixes i no_fix low are.each in
      let here : get_or (places fixes) i 0 ≡ (get_or fixes i no_fix).place = get_or-map (λ (fix : Fix). fix.place) fixes i no_fix 0 low in
      (fix.0, fix.1, rw here fix.2));
}
  where
    no_fix : Fix
    no_fix = record { place = 0; flip = 0 }

-- what is found with an offset that is picked stands in columns
pub lie_of : (offset : Option ℤ) (known : Known) (r : Result Picked Stop)
    → Meets (λ (picked : Picked). picked.at) r (Picks offset known) → IfOk r (λ picked. Mends known picked.at picked.fixes.items) → IfOk r (λ picked. LieInColumns (per_column known.sectors) picked.at.offset picked.fixes.items)
lie_of offset known (Ok picked) picks mends =
    fixes_covered (per_column known.sectors) known.words picked.at.offset mends.0 picked.fixes.items (picked_offset offset known picked.at picks) mends.2
lie_of offset known (Err stop) picks mends = tt

-- and so in the rip
pub covered_below : (c end : ℕ) (d : ℤ) (fixes : List Fix) → (c + 2) * stride ≤ end → LieInColumns c d fixes → All (λ place. place < end) (places fixes)
covered_below c end d fixes room lie = All-weaker (λ place. IsCovered c d place) (λ place. place < end)
    (λ at covered. let inside = place_inside c d covered.0 covered.1 lie.offset covered.2.column covered.2.number in omega (arith, inside, covered.2.here, room)) (places fixes) lie.covered

-- the offset that a rip and a record were compared at, where it is told
pub compared_picks : (held : Option Files) (found : Compared) (step : Files → Result (Known × List (List ℕ)) Status) (given : Option ℤ) (at : Candidate) (r : Result (Candidate × List ℕ) Stop)
    → ((files : Files) → held ≡ Some files → step files ≡ Ok (both_of files found)) → IfSome held (λ files. Picks given (known_of files found) (Ok at)) → IfOk r (λ told. told.0 ≡ at)
    → IfSome held (λ files. IfOk r (λ told. PicksCompared (step files) given told.0))
compared_picks None found step given at r is picks same = tt
compared_picks (Some files) found step given at r is picks same =
    let both : step files ≡ Ok (both_of files found) = is files refl in
    IfOk-weaker r (λ told. told.0 ≡ at) (λ told. PicksCompared (step files) given told.0) (λ told one. rw (both, one) picks) same

-- an offset of the range has 32 bits
pub offset_fits : (d : ℤ) → IsOffset d → FitsSigned w32 d
offset_fits (pos n) h = record { sfits = omega (arith, ints, h.most) }
offset_fits (negsuc n) h = record { sfits = omega (arith, ints, h.least) }

pub offset_kept : (d : ℤ) → IsOffset d → to_z w32 (of_z w32 d) ≡ d
offset_kept d h = to_z-of_z w32 d (offset_fits d h)

pub behind : (d e : ℤ) → IsOffset d → e ≡ d +ℤ pos 1 → (negsuc 5878 ≤ℤ e) × (e ≤ℤ pos 5880)
behind d e h next = (omega (arith, ints, next, h.least), omega (arith, ints, next, h.most))

-- and so has the one behind it
wide_fits : (e : ℤ) → negsuc 5878 ≤ℤ e → e ≤ℤ pos 5880 → FitsSigned w32 e
wide_fits (pos n) low up = record { sfits = omega (arith, ints, up) }
wide_fits (negsuc n) low up = record { sfits = omega (arith, ints, low) }

pub next_fits : (d : ℤ) → IsOffset d → FitsSigned w32 (to_z w32 (of_z w32 d) +ℤ pos 1)
next_fits d h = let ends = behind d (d +ℤ pos 1) h refl in rw (offset_kept d h) (wide_fits (d +ℤ pos 1) ends.0 ends.1)

pub next_offset : (d : ℤ) → IsOffset d → to_z w32 (of_z w32 (to_z w32 (of_z w32 d) +ℤ pos 1)) ≡ d +ℤ pos 1
next_offset d h = to_z-of_z w32 (to_z w32 (of_z w32 d) +ℤ pos 1) (next_fits d h) ∙ ap (λ e. e +ℤ pos 1) (offset_kept d h)

-- how many offsets of the range are left from one on, and one more
pub offsets_left : ℤ → ℕ
offsets_left (pos n) = 5881 - n
offsets_left (negsuc n) = 5882 + n

-- behind an offset fewer are left
pub passed : (from d e : ℤ) → from ≤ℤ d → IsOffset d → e ≡ d +ℤ pos 1 → offsets_left e < offsets_left from
unfolding offsets_left
passed (pos a) d (pos b) low h next = omega (arith, ints, next, low, h.most)
passed (pos a) d (negsuc b) low h next = absurd (omega (arith, ints, next, low))
passed (negsuc a) d (pos b) low h next = omega (arith, ints)
passed (negsuc a) d (negsuc b) low h next = omega (arith, ints, next, low)

module _ (known : Known) where
  -- the first two, where there is none
  pub none_found : (found : List Candidate) → length found < 1 → AreFirstAgreeing 2 known found → AreAgreeing known []
  none_found [] few are = all_from_few known 2 [] (omega arith) are
  none_found (at ∷ found) few are = absurd (omega arith)

  -- where there is one
  pub sole_found : (found : List Candidate) (e : Candidate) → 1 ≤ length found → length found < 2 → AreFirstAgreeing 2 known found → AreAgreeing known (get_or found 0 e ∷ [])
  sole_found [] e some few are = absurd (omega arith)
  sole_found (at ∷ []) e some few are = all_from_few known 2 (at ∷ []) (omega arith) are
  sole_found (at ∷ (other ∷ found)) e some few are = absurd (omega arith)

  -- and where there are two
  pub several_found : (found : List Candidate) (e f : Candidate) → 2 ≤ length found → AreFirstAgreeing 2 known found
      → (a : Candidate) × (b : Candidate) × AreFirstAgreeing 2 known (a ∷ (b ∷ []))
      × (a.offset ≡ to_z w32 (of_z w32 (get_or found 0 e).offset)) × (b.offset ≡ to_z w32 (of_z w32 (get_or found 1 f).offset))
  several_found [] e f some are = absurd (omega arith)
  several_found (a ∷ []) e f some are = absurd (omega arith)
  several_found (a ∷ (b ∷ [])) e f some are =
      (a, b, are, sym (offset_kept a.offset (are.each 0 a (omega arith)).offset), sym (offset_kept b.offset (are.each 1 b (omega arith)).offset))
  several_found (a ∷ (b ∷ (other ∷ found))) e f some are = let few = are.few in absurd (omega arith)

pub picked_agrees : (offset : Option ℤ) (known : Known) (at : Candidate) → Picks offset known (Ok at) → Agrees known at.offset
picked_agrees offset known at picks = let candidate = picked_candidate offset known at picks in (candidate.table, candidate.agrees)

-- fixes at an offset that was picked mend by a table by which the rip agrees
pub mends_of : (offset : Option ℤ) (known : Known) (at : Candidate) (fixes : List Fix) → per_column known.sectors ≤ 65535 → Picks offset known (Ok at)
    → (table : WordTable) × Fits known.count (per_column known.sectors) known.words at.offset known.stored table × AreFixes (per_column known.sectors) known.words at.offset table fixes → Mends known at fixes
mends_of offset known at fixes small picks found =
    let agrees : Agrees known at.offset = picked_agrees offset known at picks in
    (found.0, record { fits = found.1; sealed = same_seal known at.offset found.0 agrees.0 small found.1 agrees.1.fits agrees.1.sealed }, found.2)

-- ---- the offset that is mended

-- an offset among one candidate is its own
sole_offset : (at : Candidate) (d : ℤ) → HasOffset (at ∷ []) d → d ≡ at.offset
sole_offset at d (zero, below, here) = sym here
sole_offset at d (suc k, below, here) = absurd (omega arith)

pub to_mend : (offset : Option ℤ) (known : Known) (at : Candidate) → Picks offset known (Ok at) → IsOffsetToMend offset known at.offset
to_mend (Some given) known at picks = (picked_offset (Some given) known at picks, picked_agrees (Some given) known at picks, picks.0)
to_mend None known at picks =
    (picked_offset None known at picks, picked_agrees None known at picks, λ other offset near. sole_offset at other (picks.all other offset near))

not_below_itself : (d : ℤ) → d <ℤ d → ⊥
not_below_itself d l = omega (arith, ints)

-- one offset is mended
pub one_to_mend : (offset : Option ℤ) (known : Known) (d e : ℤ) → IsOffset d → IsChosen offset known d → IsOffsetToMend offset known e → e ≡ d
one_to_mend (Some given) known d e h is also = also.2 ∙ sym is
one_to_mend None known d e h is also = is e also.0 also.1

-- where an offset is to be mended, an answer is picked that is a candidate
pub mended_is_picked : (offset : Option ℤ) (known : Known) (d : ℤ) (p : Result Candidate Status) → IsOffsetToMend offset known d → Picks offset known p → (at : Candidate) × (p ≡ Ok at)
mended_is_picked (Some given) known d p to picks =
    let agrees : Agrees known given = subst (Agrees known) to.2 to.1 in
    elim (given_is given known p picks) [
      | inl a ↦ (a.0, a.1)
      | inr rest ↦ elim rest [
        | inl a ↦ absurd (unfit_far a.2 (agrees_near known given agrees))
        | inr a ↦ absurd (a.2 agrees)
      ]
    ]
mended_is_picked None known d p to picks = elim (sole_is known p picks) [
  | inl a ↦ (a.0, a.1)
  | inr rest ↦ elim rest [
    | inl none ↦ let has = none.1.all d to.0 to.1 in absurd (let below = has.1 in omega arith)
    | inr two ↦
        let a = two.3.each 0 two.0 (omega arith) in
        let b = two.3.each 1 two.0 (omega arith) in
        let one : two.0.offset ≡ d = to.2 two.0.offset a.offset (a.table, a.agrees) in
        let other : two.1.offset ≡ d = to.2 two.1.offset b.offset (b.table, b.agrees) in
        let Below : ℤ → ℤ → Type 0 = λ x y. x <ℤ y in
        let rises : Below two.0.offset two.1.offset = two.3.rising 0 1 two.0 (omega arith) (omega arith) in
        absurd (not_below_itself d (subst (λ x. Below x d) one (subst (Below two.0.offset) other rises)))
  ]
]

-- ---- the outcome of `repair`, of a rip and a record that were compared, where the output is free

pub no_done : (offset : Option ℤ) (known : Known) → Picks offset known (Err Done) → ⊥
no_done None known picks = picks
no_done (Some d) known picks = picks
