-- Where tracks begin and end, and their words.
use Rattle.std.proofs.Common.{◌≡◌, ◌∙◌, ◌+◌, ◌-◌, ◌≤◌, ℕ, List, take, drop, sym, ap, ap₂, arith, ◌++◌, length}
use Rattle.std.specs.Prelude.{slice_range, Option, IfSome}
use Rattle.std.proofs.lemmas.List.{drop-drop, take-append-le, take_all}
use Rattle.std.proofs.Math.Seq.{take-add}
use Rattle.rip_outside.specs.Files.{Files}
use Rattle.rip_outside.proofs.FilesLaws.{if_told_both}

-- a piece of the words from a place on
pub piece_from : (words : List ℕ) (from at m : ℕ) → from ≤ at → slice_range words at (at + m) ≡ slice_range (drop from words) (at - from) (at - from + m)
piece_from words from at m le =
    let whole : from + (at - from) ≡ at = omega arith in
    let size : at + m - at ≡ at - from + m - (at - from) = omega arith in
    ap₂ take size (sym (drop-drop (at - from) from words ∙ ap (λ k. drop k words) whole))

-- the words read so far, and those of the next piece
pub one_more_piece : (words : List ℕ) (i n : ℕ) → take i words ++ slice_range words i (i + n) ≡ take (i + n) words
one_more_piece words i n =
    let size : i + n - i ≡ n = omega arith in
    ap (λ k. take i words ++ take k (drop i words)) size ∙ sym (take-add i n words)

-- words so far, and those of the next piece
pub more_told : (o : Option Files) (words : Files → List ℕ) (i n : ℕ) (y old piece : List ℕ) → length old ≡ n → IfSome o (λ files. y ≡ take i (words files))
    → IfSome o (λ files. piece ≡ slice_range (words files) i (i + length old)) → IfSome o (λ files. y ++ piece ≡ take (i + n) (words files))
more_told o words i n y old piece size so_far is = if_told_both o (λ files. y ≡ take i (words files)) (λ files. piece ≡ slice_range (words files) i (i + length old)) _
    (λ files front here. ap₂ (λ a b. a ++ b) front (here ∙ ap (λ m. slice_range (words files) i (i + m)) size) ∙ one_more_piece (words files) i n) so_far is

-- and all of them
pub whole_told : (o : Option Files) (words : Files → List ℕ) (i : ℕ) (y : List ℕ) → IfSome o (λ files. length (words files) ≤ i) → IfSome o (λ files. y ≡ take i (words files)) → IfSome o (λ files. y ≡ words files)
whole_told o words i y all so_far = if_told_both o (λ files. length (words files) ≤ i) (λ files. y ≡ take i (words files)) _ (λ files end is. is ∙ take_all i (words files) end) all so_far

-- all words at once
pub all_read : (words buf : List ℕ) (n : ℕ) → length words ≡ n → buf ≡ slice_range words 0 (0 + n) → buf ≡ words
all_read words buf n size is = is ∙ one_more_piece words 0 n ∙ take_all (0 + n) words (omega arith)

-- a vector whose whole was written over
pub written_over : (n : ℕ) (new rest : List ℕ) → length new ≡ n → take n (new ++ rest) ≡ new
written_over n new rest size = let fits : n ≤ length new = omega arith in rw take-append-le (take_all n new (omega arith))
