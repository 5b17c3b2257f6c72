-- A list that a loop makes, a number for each index.
use Rattle.std.proofs.Common.{◌≡◌, ◌∙◌, sym, ap, ℕ, ◌+◌, List, [], ◌∷◌, ◌++◌, map, arith}
use Rattle.std.specs.List.{range_with_len}
use Rattle.std.proofs.lemmas.List.FromFn.{map-range_with_len_more}

pub made_more : (f : ℕ → ℕ) (n number : ℕ) (before after : List ℕ) → before ≡ map f (range_with_len 0 n) → number ≡ f n → after ≡ before ++ number ∷ [] → after ≡ map f (range_with_len 0 (n + 1))
made_more f n number before after made is pushed =
    pushed ∙ ap (λ x. before ++ x ∷ []) is ∙ ap (λ xs. xs ++ f n ∷ []) made ∙ sym (map-range_with_len_more f 0 n n (omega arith))
