-- Names that are taken out of a list.
use Rattle.std.proofs.Common.{◌≡◌, ℕ, zero, suc, ◌+◌, ◌<◌, Bool, true, false, not, cond, ◌||◌, List, [], ◌∷◌, length, get_or, Some, None, refl, ◌∙◌, ap, arith, ltb}
use Rattle.std.specs.List.{list_any, filter, remove, position, position_or_len}
use Rattle.std.proofs.lemmas.Bool.Decides.{nat_tests}

module _ {X : Type 0} where
  -- an element that doesn't pass isn't missed
  pub filter-remove : (q : X → Bool) (xs : List X) (i : ℕ) (d : X) → i < length xs → q (get_or xs i d) ≡ false → filter q (remove xs i) ≡ filter q xs
  filter-remove q [] i d below out = absurd (omega arith)
  filter-remove q (x ∷ xs) zero d below out = rw out refl
  filter-remove q (x ∷ xs) (suc i) d below out = ap (λ ys. cond (q x) (x ∷ ys) ys) (filter-remove q xs i d (omega arith) out)

  -- a list none of whose elements passes the test
  pub filter-none : (p : X → Bool) (xs : List X) → list_any p xs ≡ false → filter (λ x. not (p x)) xs ≡ xs
  filter-none p [] none = refl
  filter-none p (x ∷ xs) none = by (filter-none p xs) (p x) none
    where
      by : (list_any p xs ≡ false → filter (λ x. not (p x)) xs ≡ xs) → (b : Bool) → (b || list_any p xs) ≡ false
          → cond (not b) (x ∷ filter (λ x. not (p x)) xs) (filter (λ x. not (p x)) xs) ≡ x ∷ xs
      by rest true e = let clash : true ≡ false = e in cc
      by rest false e = ap (λ ys. x ∷ ys) (rest e)

  any_first : (p : X → Bool) (xs : List X) → ltb (position_or_len p xs) (length xs) ≡ list_any p xs
  any_first p [] = refl
  any_first p (x ∷ xs) = by (any_first p xs) (p x)
    where
      by : ltb (position_or_len p xs) (length xs) ≡ list_any p xs → (b : Bool) → ltb (cond (not b) (1 + position_or_len p xs) 0) (suc (length xs)) ≡ (b || list_any p xs)
      by rest true = grind (arith, nat_tests)
      by rest false = let step : ltb (1 + position_or_len p xs) (suc (length xs)) ≡ ltb (position_or_len p xs) (length xs) = grind (arith, nat_tests) in step ∙ rest

  pub no_position : (p : X → Bool) (xs : List X) → position p xs ≡ None → list_any p xs ≡ false
  no_position p xs none = by (list_any p xs) (any_first p xs) none
    where
      by : (b : Bool) → ltb (position_or_len p xs) (length xs) ≡ b → cond (ltb (position_or_len p xs) (length xs)) (Some (position_or_len p xs)) None ≡ None → b ≡ false
      by false e is = refl
      by true e is = let clash : Some (position_or_len p xs) ≡ None = rw e at is in cc

  pub some_position : (p : X → Bool) (xs : List X) (i : ℕ) → position p xs ≡ Some i → list_any p xs ≡ true
  some_position p xs i some = by (list_any p xs) (any_first p xs) some
    where
      by : (b : Bool) → ltb (position_or_len p xs) (length xs) ≡ b → cond (ltb (position_or_len p xs) (length xs)) (Some (position_or_len p xs)) None ≡ Some i → b ≡ true
      by true e is = refl
      by false e is = let clash : None ≡ Some i = rw e at is in cc
