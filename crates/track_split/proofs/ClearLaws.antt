-- Texts without some bytes, and where a text is parted by the first of them.
use Rattle.std.proofs.Common.{◌≡◌, ◌∙◌, ℕ, suc, ◌+◌, List, [], ◌∷◌, ◌++◌, length, drop, Bool, true, false, ◌||◌, refl, ap, arith, one-add}
use Rattle.std.specs.Prelude.{◌==◌}
use Rattle.std.specs.List.{before_first, after_first, list_any, prefix_len}
use Rattle.std.specs.Str.{bytes_eq}
use Rattle.std.proofs.lemmas.Bool.Decides.{nat_tests}

-- no byte of the text passes the test
abbrev pub IsClear : (ℕ → Bool) → List ℕ → Type 0
IsClear p [] = Unit {0}
IsClear p (byte ∷ text) = (p byte ≡ false) × IsClear p text

either_false : (a b : Bool) → (a || b) ≡ false → (a ≡ false) × (b ≡ false)
either_false true b e = let no : ⊥ = cc in absurd no
either_false false b e = (refl, e)

-- of a text that can be looked through
pub clear_seen : (p : ℕ → Bool) (text : List ℕ) → list_any p text ≡ false → IsClear p text
clear_seen p [] e = tt
clear_seen p (byte ∷ text) e = let both = either_false (p byte) (list_any p text) e in (both.0, clear_seen p text both.1)

pub clear-append : (p : ℕ → Bool) (front back : List ℕ) → IsClear p front → IsClear p back → IsClear p (front ++ back)
clear-append p [] back front_clear back_clear = back_clear
clear-append p (byte ∷ front) back front_clear back_clear = (front_clear.0, clear-append p front back front_clear.1 back_clear)

pub clear_weaker : (p q : ℕ → Bool) (text : List ℕ) → ((byte : ℕ) → p byte ≡ false → q byte ≡ false) → IsClear p text → IsClear q text
clear_weaker p q [] step clear = tt
clear_weaker p q (byte ∷ text) step clear = (step byte clear.0, clear_weaker p q text step clear.1)

-- ---- a text up to the first such byte, and after it

pub before-at : (p : ℕ → Bool) (front back : List ℕ) (byte : ℕ) → IsClear p front → p byte ≡ true → before_first p (front ++ byte ∷ back) ≡ front
before-at p [] back byte clear at = rw at refl
before-at p (x ∷ front) back byte clear at = rw (clear.0, one-add) (ap (λ text. x ∷ text) (before-at p front back byte clear.1 at))

step_over : (x n : ℕ) (text : List ℕ) → drop ((1 + n) + 1) (x ∷ text) ≡ drop (n + 1) text
step_over x n text = let e : (1 + n) + 1 ≡ suc (n + 1) = omega arith in rw e refl

pub after-at : (p : ℕ → Bool) (front back : List ℕ) (byte : ℕ) → IsClear p front → p byte ≡ true → after_first p (front ++ byte ∷ back) ≡ back
after-at p [] back byte clear at = rw at refl
after-at p (x ∷ front) back byte clear at = rw clear.0 (step_over x _ (front ++ byte ∷ back) ∙ after-at p front back byte clear.1 at)

pub before-none : (p : ℕ → Bool) (text : List ℕ) → IsClear p text → before_first p text ≡ text
before-none p [] clear = refl
before-none p (x ∷ text) clear = rw (clear.0, one-add) (ap (λ rest. x ∷ rest) (before-none p text clear.1))

pub any-at : (p : ℕ → Bool) (front back : List ℕ) (byte : ℕ) → p byte ≡ true → list_any p (front ++ byte ∷ back) ≡ true
any-at p [] back byte at = rw at refl
any-at p (x ∷ front) back byte at = by (p x) (any-at p front back byte at)
  where
    by : (b : Bool) → list_any p (front ++ byte ∷ back) ≡ true → (b || list_any p (front ++ byte ∷ back)) ≡ true
    by true e = refl
    by false e = e

-- ---- a text that doesn't begin or end with such a byte

pub first_stays : (p : ℕ → Bool) (byte : ℕ) (text : List ℕ) → p byte ≡ false → drop (prefix_len p (byte ∷ text)) (byte ∷ text) ≡ byte ∷ text
first_stays p byte text clear = rw clear refl

-- the last byte isn't this one
pub last_other : (byte : ℕ) (x : ℕ) (text : List ℕ) → IsClear (λ b. b == byte) (x ∷ text) → bytes_eq (drop (length text) (x ∷ text)) (byte ∷ []) ≡ false
last_other byte x [] clear = rw clear.0 refl
last_other byte x (y ∷ text) clear = last_other byte y text clear.1

pub some_length : (x : ℕ) (text : List ℕ) → (length (x ∷ text) == 0) ≡ false
some_length x text = grind (arith, nat_tests)
