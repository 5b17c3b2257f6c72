-- The names of good entries, and of what is made of them.
use Rattle.std.proofs.Common.{◌≡◌, ◌≢◌, ◌∙◌, ℕ, List, [], ◌∷◌, ◌++◌, length, drop, get_or, Result, Ok, Err, Bool, true, false, refl, sym, ap, arith, append_assoc}
use Rattle.std.specs.Prelude.{codes, ◌&&◌}
use Rattle.std.specs.Bool.{Decides}
use Rattle.std.specs.Str.{bytes_eq}
use Rattle.std.proofs.Math.Seq.{drop-append_seam}
use Rattle.std.proofs.lemmas.Slice.Eq.{bytes_eq-Decides}
use Rattle.rip_outside.specs.Outputs.{part_of}
use Rattle.parity_store.specs.Naming.{stored_name}
use Rattle.parity_store.specs.Reading.{Stored, record_reading}
use Rattle.parity_store.specs.declared.reading.RecordKind.{RecordKind}
use Rattle.store_upkeep.specs.Entries.{key_of, state_of_bytes, state_of_reading, state_of_record}
use Rattle.store_upkeep.specs.Looking.{is_good}
use Rattle.cmd_merge.specs.MergeOutcome.{target}

-- ---- a good entry has its key's name

-- an entry is named by a key
abbrev pub IsNamed : List ℕ → List ℕ → Type 0
IsNamed folder name = (key : List ℕ) × (name ≡ stored_name folder key)

same_bytes : (b : Bool) (xs ys : List ℕ) → Decides b (xs ≡ ys) → b ≡ true → xs ≡ ys
same_bytes true xs ys same is = same.0 refl
same_bytes false xs ys same is = let no : false ≡ true = is in cc

named_record : (folder name : List ℕ) (stored : Stored) (b : Bool) → bytes_eq name (stored_name folder (key_of stored)) ≡ b → is_good (state_of_record folder name stored) ≡ true → IsNamed folder name
named_record folder name stored true is good = (key_of stored, same_bytes (bytes_eq name (stored_name folder (key_of stored))) name (stored_name folder (key_of stored)) (bytes_eq-Decides name (stored_name folder (key_of stored))) is)
named_record folder name stored false is good = let no : false ≡ true = rw is at good in cc

named_reading : (folder name : List ℕ) (reading : Result Stored RecordKind) → is_good (state_of_reading folder name reading) ≡ true → IsNamed folder name
named_reading folder name (Err kind) good = let no : false ≡ true = good in cc
named_reading folder name (Ok stored) good = named_record folder name stored (bytes_eq name (stored_name folder (key_of stored))) refl good

pub good_named : (folder name bytes : List ℕ) → is_good (state_of_bytes folder name bytes) ≡ true → IsNamed folder name
unfolding state_of_bytes
good_named folder name bytes good = named_reading folder name (record_reading bytes) good

pub first_true : (a b : Bool) → (a && b) ≡ true → a ≡ true
first_true true b both = refl
first_true false b both = let no : false ≡ true = both in cc

-- ---- what is made of it

pub target_stored : (from to key : List ℕ) → target from to (stored_name from key) ≡ stored_name to key
target_stored from to key =
    ap (λ (rest : List ℕ). to ++ rest) (ap (drop (length from)) (append_assoc from key (codes ".rpar")) ∙ drop-append_seam from (key ++ codes ".rpar"))
    ∙ sym (append_assoc to key (codes ".rpar"))

last_same : (xs ys : List ℕ) (x y : ℕ) → xs ++ x ∷ [] ≡ ys ++ y ∷ [] → x ≡ y
last_same [] [] x y same = ap (λ l. get_or l 0 0) same
last_same [] (b ∷ []) x y same = let sizes = ap length same in absurd (omega (arith, sizes))
last_same [] (b ∷ (d ∷ ys)) x y same = let sizes = ap length same in absurd (omega (arith, sizes))
last_same (a ∷ []) [] x y same = let sizes = ap length same in absurd (omega (arith, sizes))
last_same (a ∷ (c ∷ xs)) [] x y same = let sizes = ap length same in absurd (omega (arith, sizes))
last_same (a ∷ xs) (b ∷ ys) x y same = last_same xs ys x y (ap (drop 1) same)

-- a record's name is no part's
pub record_no_part : (folder key name : List ℕ) → stored_name folder key ≢ part_of name
record_no_part folder key name same =
    let ends : ((folder ++ key) ++ codes ".rpa") ++ 114 ∷ [] ≡ (name ++ codes ".par") ++ 116 ∷ [] =
    append_assoc (folder ++ key) (codes ".rpa") (114 ∷ []) ∙ same ∙ sym (append_assoc name (codes ".par") (116 ∷ [])) in
    let last : 114 ≡ 116 = last_same ((folder ++ key) ++ codes ".rpa") (name ++ codes ".par") 114 116 ends in
    absurd (omega (arith, last))

-- two names of one folder are one where those of another are
same_key : (to key other : List ℕ) → stored_name to key ≡ stored_name to other → key ++ codes ".rpar" ≡ other ++ codes ".rpar"
same_key to key other same =
    sym (ap (drop (length to)) (append_assoc to key (codes ".rpar")) ∙ drop-append_seam to (key ++ codes ".rpar"))
    ∙ ap (drop (length to)) same
    ∙ ap (drop (length to)) (append_assoc to other (codes ".rpar")) ∙ drop-append_seam to (other ++ codes ".rpar")

pub target_differs : (from to a b : List ℕ) → IsNamed from a → IsNamed from b → a ≢ b → target from to a ≢ target from to b
target_differs from to a b named other differs same =
    let stored : stored_name to named.0 ≡ stored_name to other.0 =
    sym (ap (target from to) named.1 ∙ target_stored from to named.0) ∙ same ∙ ap (target from to) other.1 ∙ target_stored from to other.0 in
    differs (named.1 ∙ append_assoc from named.0 (codes ".rpar") ∙ ap (λ (rest : List ℕ). from ++ rest) (same_key to named.0 other.0 stored) ∙ sym (append_assoc from other.0 (codes ".rpar")) ∙ sym other.1)

-- a good entry's name, and its name in another folder, are no part's
pub named_no_part : (folder name other : List ℕ) → IsNamed folder name → name ≢ part_of other
named_no_part folder name other named same = record_no_part folder named.0 other (sym named.1 ∙ same)

pub target_no_part : (from to name other : List ℕ) → IsNamed from name → target from to name ≢ part_of other
target_no_part from to name other named same = record_no_part to named.0 other (sym (ap (target from to) named.1 ∙ target_stored from to named.0) ∙ same)
