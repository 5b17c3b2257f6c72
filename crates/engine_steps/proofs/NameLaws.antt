-- Names among those that are read.
use Rattle.std.proofs.Common.{◌≡◌, ◌≢◌, ◌∙◌, ◌<◌, ℕ, zero, suc, List, [], ◌∷◌, ◌++◌, Bool, ◌||◌, true, false, refl, sym, ap, ap₂, arith}
use Rattle.std.specs.List.{Contains, list_any}
use Rattle.std.specs.Prelude.{slice_index_or}
use Rattle.std.specs.Str.{bytes_eq}
use Rattle.std.proofs.lemmas.Slice.Eq.{bytes_eq-Decides}
use Rattle.std.proofs.lemmas.List.Folds.{list_any-append, list_any_at, list_any_none}

-- a part that isn't read has another name than each that is
pub unread_differs : (part : List ℕ) (names : List (List ℕ)) (name : List ℕ) → list_any (bytes_eq part) names ≡ false → Contains names name → name ≢ part
unread_differs part names name unread there same =
    let own : bytes_eq part name ≡ true = grind (arith, bytes_eq-Decides) in
    let read : list_any (bytes_eq part) names ≡ true = list_any_at (bytes_eq part) names there.0 name there.1 (ap (bytes_eq part) there.2 ∙ own) in
    let no : true ≡ false = sym read ∙ unread in cc

one_name : (part rec : List ℕ) → list_any (bytes_eq part) (rec ∷ []) ≡ bytes_eq part rec
one_name part rec = by (bytes_eq part rec) refl
  where
    by : (b : Bool) → bytes_eq part rec ≡ b → list_any (bytes_eq part) (rec ∷ []) ≡ b
    by true is = list_any_at (bytes_eq part) (rec ∷ []) 0 rec (omega arith) is
    by false is = list_any_none (bytes_eq part) (rec ∷ []) (λ k d below. only k d below)
      where
        only : (k : ℕ) (d : List ℕ) → k < 1 → bytes_eq part (slice_index_or (rec ∷ []) k d) ≡ false
        only zero d below = is
        only (suc k) d below = absurd (omega arith)

-- whether a part is one of the names that are read, the record's among them
names_and_last : (part : List ℕ) (names : List (List ℕ)) (rec : List ℕ) (among : Bool) → list_any (bytes_eq part) names ≡ among → list_any (bytes_eq part) (names ++ rec ∷ []) ≡ (among || bytes_eq part rec)
names_and_last part names rec among is = list_any-append (bytes_eq part) names (rec ∷ []) ∙ ap₂ (λ a b. a || b) is (one_name part rec)

pub names_among : (part : List ℕ) (names : List (List ℕ)) (rec : List ℕ) → list_any (bytes_eq part) names ≡ true → list_any (bytes_eq part) (names ++ rec ∷ []) ≡ true
names_among part names rec is = names_and_last part names rec true is

pub names_last : (part : List ℕ) (names : List (List ℕ)) (rec : List ℕ) → list_any (bytes_eq part) names ≡ false → list_any (bytes_eq part) (names ++ rec ∷ []) ≡ bytes_eq part rec
names_last part names rec is = names_and_last part names rec false is
