-- Roots that were found among some places: where there are as many as the length, they are all.
use Rattle.std.proofs.Common.{◌≡◌, ◌≢◌, ℕ, zero, suc, ◌+◌, ◌<◌, ◌≤◌, ◌⊎◌, cond, eqb, inl, inr, refl, sym, ap, subst, ◌∙◌, arith, eq-eqb, ne_eqb}
use Rattle.std.proofs.lemmas.Bool.{cases_lt, cases_eq}
use Rattle.gf16_poly.specs.Register.{AllWords, Apart}
use Rattle.error_locator.specs.Roots.{AreRoots, HasAllRoots, IsRising, IsRoot}
use Rattle.error_locator.proofs.RootWalk.{rising_apart, roots_fit}

-- the count places k are roots, they rise, and stand before the place next of the column
pub record AreFound (len : ℕ) (coef : ℕ → ℕ) (c next count : ℕ) (k : ℕ → ℕ) : Type 0 where
  pub rising : IsRising count k
  pub before : (i : ℕ) → i < count → k i < next
  pub roots : (i : ℕ) → i < count → IsRoot len coef c (k i)
  pub inside : next ≤ c
  pub few : count ≤ len

pub found_more : (len : ℕ) (coef : ℕ → ℕ) (c next count place : ℕ) (k more : ℕ → ℕ) → AreFound len coef c next count k → next ≤ place → place < c → count < len
    → IsRoot len coef c place → ((i : ℕ) → i < count → more i ≡ k i) → more count ≡ place → AreFound len coef c (place + 1) (count + 1) more
found_more len coef c next count place k more now late l room root kept last = record {
  rising = λ i j il jl. elim (cases_lt j count) [
    | inl early ↦ (let rises : k i < k j = now.rising i j il early in omega (arith, kept i (omega arith), kept j early))
    | inr last_one ↦
        let at : j ≡ count = omega arith in
        let here : more j ≡ place = ap more at ∙ last in
        omega (arith, kept i (omega arith), now.before i (omega arith))
  ];
  before = λ i il. elim (cases_lt i count) [
    | inl early ↦ omega (arith, kept i early, now.before i early)
    | inr last_one ↦ (let at : i ≡ count = omega arith in let here : more i ≡ place = ap more at ∙ last in omega arith)
  ];
  roots = λ i il.
      let R : ℕ → Type 0 = λ q. IsRoot len coef c q in
      elim (cases_lt i count) [
        | inl early ↦ subst R (sym (kept i early)) (now.roots i early)
        | inr last_one ↦ (let at : i ≡ count = omega arith in subst R (sym (ap more at ∙ last)) root)
      ];
  inside = omega arith;
  few = omega arith;
}

-- whether a place is among the first n
among : (k : ℕ → ℕ) (q n : ℕ) → ((i : ℕ) × (i < n) × (k i ≡ q)) ⊎ ((i : ℕ) → i < n → k i ≢ q)
among k q zero = inr (λ i l same. omega arith)
among k q (suc n) =
    elim (among k q n) [
      | inl at ↦ (let inside : at.0 < n = at.1 in inl (at.0, omega arith, at.2))
      | inr none ↦
          elim (cases_eq (k n) q) [
            | inl here ↦ inl (n, omega arith, here)
            | inr apart ↦
                inr
                (λ i l same. elim (cases_lt i n) [
                  | inl early ↦ none i early same
                  | inr last ↦ (let at : i ≡ n = omega arith in apart (ap k (sym at) ∙ same))
                ])
          ]
    ]

module _ (len : ℕ) (coef : ℕ → ℕ) (c count : ℕ) (k : ℕ → ℕ) (cw : AllWords coef) (small : c ≤ 65535) (full : count ≡ len) (are : AreRoots len coef c count k) where
  -- the places, and one more
  extended : ℕ → ℕ → ℕ
  extended q i = cond (eqb i count) q (k i)

  extended_last : (q i : ℕ) → i ≡ count → extended q i ≡ q
  unfolding extended
  extended_last q i e = rw (eq-eqb i count e) refl

  extended_before : (q i : ℕ) → i < count → extended q i ≡ k i
  unfolding extended
  extended_before q i l = let apart : i ≢ count = omega arith in rw (ne_eqb i count apart) refl

  extended_apart : (q : ℕ) → ((i : ℕ) → i < count → k i ≢ q) → Apart (suc len) (extended q)
  extended_apart q none i j il jl same =
      elim (cases_lt i count) [
        | inl first ↦
            elim (cases_lt j count) [
              | inl second ↦ rising_apart count k are.rising i j first second (sym (extended_before q i first) ∙ same ∙ extended_before q j second)
              | inr last ↦ absurd (none i first (sym (extended_before q i first) ∙ same ∙ extended_last q j (omega arith)))
            ]
        | inr last_one ↦
            elim (cases_lt j count) [
              | inl second ↦ absurd (none j second (sym (extended_before q j second) ∙ sym same ∙ extended_last q i (omega arith)))
              | inr last ↦ omega arith
            ]
      ]

  pub found_all : HasAllRoots len coef c count k
  found_all q ql root = elim (among k q count) [
    | inl at ↦ at
    | inr none ↦
        absurd
        (roots_fit len coef c cw small (extended q) (extended_apart q none)
        (λ i l. elim (cases_lt i count) [
          | inl early ↦ omega (arith, extended_before q i early, are.below i early)
          | inr last ↦ omega (arith, extended_last q i (omega arith))
        ])
        (λ i l.
        let R : ℕ → Type 0 = λ q. IsRoot len coef c q in
        elim (cases_lt i count) [
          | inl early ↦ subst R (sym (extended_before q i early)) (are.roots i early)
          | inr last ↦ subst R (sym (extended_last q i (omega arith))) root
        ]))
  ]
