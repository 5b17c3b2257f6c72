-- The first word of a command line.
use Rattle.std.proofs.Common.{◌≡◌, ◌∙◌, ℕ, ◌-◌, ◌≤◌, List, ◌∷◌, length, take, drop, get_or, ap, ap₂, sym, refl, arith, Bool, true, false}
use Rattle.std.specs.Prelude.{String, codes}
use Rattle.std.specs.Bool.{Decides}
use Rattle.std.specs.Str.{bytes_eq}
use Rattle.std.specs.String.{string_bytes}
use Rattle.std.specs.declared.alloc.Global.{Global}
use Rattle.std.proofs.lemmas.List.{drop_more, length-drop, take_all}
use Rattle.std.proofs.lemmas.Slice.Eq.{bytes_eq-Decides}
use Rattle.rip_words.specs.Command.{command_reading, texts, verb_of, verb_words}

other : (word own : List ℕ) → (word ≡ own → ⊥) → bytes_eq word own ≡ false
other word own differs = by (bytes_eq word own) (bytes_eq-Decides word own) refl
  where
    by : (b : Bool) → Decides b (word ≡ own) → bytes_eq word own ≡ b → bytes_eq word own ≡ false
    by true same is = absurd (differs (same.0 refl))
    by false same is = is

-- where it is none of the other commands' own words, it asks for a command with two names, or for none
pub two_names : (first : List ℕ) (rest : List (List ℕ)) → (first ≡ codes "sums" → ⊥) → (first ≡ codes "split" → ⊥) → (first ≡ codes "join" → ⊥) → (first ≡ codes "list" → ⊥) → (first ≡ codes "check" → ⊥) → (first ≡ codes "merge" → ⊥)
    → (first ≡ codes "trial" → ⊥)
    → command_reading (first ∷ rest) ≡ verb_words (verb_of first) rest
two_names first rest sums split join list check merge trial =
    rw (other first (codes "sums") sums, other first (codes "split") split, other first (codes "join") join, other first (codes "list") list, other first (codes "check") check, other first (codes "merge") merge, other first (codes "trial") trial) refl

-- the words after it
pub words_split : (words : List (String Global)) (first : String Global) → 1 ≤ length words → first ≡ get_or words 0 first
    → texts words ≡ string_bytes first ∷ texts (take (length words - 1) (drop 1 words))
words_split words first some is =
    ap texts (drop_more words 0 first some ∙ ap₂ (λ (a : String Global) (l : List (String Global)). a ∷ l) (sym is) (sym (take_all (length words - 1) (drop 1 words) (rest_length words))))
  where
    rest_length : (words : List (String Global)) → length (drop 1 words) ≤ length words - 1
    rest_length words = omega (arith, length-drop 1 words)
