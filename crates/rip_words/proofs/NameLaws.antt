-- The name of a file in its folder.
use Rattle.std.proofs.Common.{◌≡◌, ◌≢◌, ◌∙◌, ℕ, zero, suc, ◌<◌, List, [], ◌∷◌, length, get_or, drop, true, false, cond, ap, arith, refl}
use Rattle.std.specs.Prelude.{◌==◌}
use Rattle.std.specs.List.{list_any}
use Rattle.std.proofs.lemmas.Bool.{eq-eqb, ne_eqb}
use Rattle.std.proofs.lemmas.List.Elements.{All-from_get_or}
use Rattle.std.proofs.lemmas.List.Folds.{list_any_at, list_any_none}
use Rattle.rip_words.specs.FileNames.{name_in_folder}

-- a name without a "/" is all of it
pub no_slash : (name : List ℕ) → ((i : ℕ) → i < length name → get_or name i 0 ≢ 47) → name_in_folder name ≡ name
unfolding name_in_folder
no_slash [] none = refl
no_slash (byte ∷ rest) none =
    let no : list_any (λ b. b == 47) (byte ∷ rest) ≡ false = list_any_none (λ b. b == 47) (byte ∷ rest) (All-from_get_or (λ x. (x == 47) ≡ false) (byte ∷ rest) 0 (λ i inside. ne_eqb (get_or (byte ∷ rest) i 0) 47 (none i inside))) in
    ap (λ any. cond any (name_in_folder rest) (byte ∷ rest)) no

-- it begins after the last "/"
pub after_slash : (name : List ℕ) (k : ℕ) → k < length name → get_or name k 0 ≡ 47 → ((i : ℕ) → k < i → i < length name → get_or name i 0 ≢ 47) → name_in_folder name ≡ drop (suc k) name
unfolding name_in_folder
after_slash [] k inside slash last = absurd (omega arith)
after_slash (byte ∷ rest) zero inside slash last =
    let some : list_any (λ b. b == 47) (byte ∷ rest) ≡ true = list_any_at (λ b. b == 47) (byte ∷ rest) 0 0 inside (eq-eqb byte 47 slash) in
    ap (λ any. cond any (name_in_folder rest) (byte ∷ rest)) some ∙ no_slash rest (λ i h. last (suc i) (omega arith) (omega arith))
after_slash (byte ∷ rest) (suc k) inside slash last =
    let some : list_any (λ b. b == 47) (byte ∷ rest) ≡ true = list_any_at (λ b. b == 47) (byte ∷ rest) (suc k) 0 inside (eq-eqb (get_or rest k 0) 47 slash) in
    ap (λ any. cond any (name_in_folder rest) (byte ∷ rest)) some ∙ after_slash rest k (omega arith) slash (λ i above h. last (suc i) (omega arith) (omega arith))
