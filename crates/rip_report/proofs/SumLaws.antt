-- Texts of several parts, and the lines of tracks.
use Rattle.std.proofs.Common.{◌≡◌, ℕ, suc, ◌+◌, ◌<◌, List, [], ◌∷◌, ◌++◌, length, take, get_or, ap, sym, ◌∙◌, arith, append_assoc, append-nil, Option, Some, IfSome}
use Rattle.std.specs.Fmt.{◌++?◌}
use Rattle.std.proofs.lemmas.List.{take_more, length-take}
use Rattle.accurip_sums.specs.declared.pair.Sums.{Sums}
use Rattle.rip_report.specs.Sums.{track_line, track_lines}

-- a text of parts that are known
pub two_shown : (made a b c d e w x y : List ℕ) (p q : Option (List ℕ)) → b ≡ w → p ≡ Some x → q ≡ Some y
    → IfSome (Some a ++? Some b ++? Some c ++? p ++? Some d ++? q ++? Some e) (λ text. made ≡ text)
    → made ≡ a ++ w ++ c ++ x ++ d ++ y ++ e
two_shown made a b c d e w x y p q number one two is = (rw (number, one, two) at is) ∙ simp append_assoc

pub one_shown : (made a b c d w x : List ℕ) (p : Option (List ℕ)) → b ≡ w → p ≡ Some x
    → IfSome (Some a ++? Some b ++? Some c ++? p ++? Some d) (λ text. made ≡ text) → made ≡ a ++ w ++ c ++ x ++ d
one_shown made a b c d w x p name one is = (rw (name, one) at is) ∙ simp append_assoc

-- one more track
track_lines-append : (n : ℕ) (list : List Sums) (sums : Sums) → track_lines n (list ++ sums ∷ []) ≡ track_lines n list ++ track_line (n + length list) sums
unfolding track_lines
track_lines-append n [] sums = let same : n ≡ n + 0 = omega arith in append-nil (track_line n sums) ∙ ap (λ k. track_line k sums) same
track_lines-append n (first ∷ later) sums =
    let same : n + 1 + length later ≡ n + suc (length later) = omega arith in
    ap (λ x. track_line n first ++ x) (track_lines-append (n + 1) later sums ∙ ap (λ k. track_lines (n + 1) later ++ track_line k sums) same)
    ∙ sym (append_assoc (track_line n first) (track_lines (n + 1) later) (track_line (n + suc (length later)) sums))

pub track_lines_more : (list : List Sums) (i : ℕ) (sums : Sums) → i < length list → track_lines 1 (take (i + 1) list) ≡ track_lines 1 (take i list) ++ track_line (i + 1) (get_or list i sums)
track_lines_more list i sums inside =
    let number : 1 + length (take i list) ≡ i + 1 = omega (arith, length-take i list) in
    ap (track_lines 1) (take_more list i sums inside) ∙ track_lines-append 1 (take i list) (get_or list i sums)
    ∙ ap (λ k. track_lines 1 (take i list) ++ track_line k (get_or list i sums)) number
