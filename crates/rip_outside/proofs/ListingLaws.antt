-- Laws of the names that stand in a folder.
use Rattle.std.proofs.Common.{◌≡◌, ◌≢◌, ◌∙◌, ℕ, zero, suc, List, [], ◌∷◌, map, Bool, true, false, subst, arith, T}
use Rattle.std.specs.Prelude.{All, AllPairs, ◌&&◌, slice_index_or}
use Rattle.std.specs.Ordering.{nat_cmp, is_eq, is_lt}
use Rattle.std.specs.declared.cmp.Ordering.{Ordering}
use Rattle.std.specs.declared.cmp.Ordering.TheVariants.{Less, Equal, Greater}
use Rattle.std.specs.Cmp.Lexicographic.{slice_cmp}
use Rattle.std.specs.FinMap.{contains_key-keys, entries, entries_sorted, keys}
use Rattle.std.specs.FinMap.Entries.{below_all, is_sorted}
use Rattle.std.proofs.lemmas.List.Elements.{All-cons, All-filter, All-nil}
use Rattle.std.proofs.lemmas.List.Folds.{list_any_at}
use Rattle.std.proofs.lemmas.List.Kept.{AllPairs-filter}
use Rattle.rip_outside.specs.Files.{Files, IsHeld}
use Rattle.rip_outside.specs.Listing.{names_in, stands_in}
use Rattle.rip_outside.proofs.FilesLaws.{is_name, is_name_same}

-- ---- each is held

pub keys_held : (files : Files) → All (λ name. IsHeld name files) (keys files)
keys_held files k d below =
    let name : List ℕ = slice_index_or (keys files) k d in
    contains_key-keys files name ∙ list_any_at (is_name name) (keys files) k d below (is_name_same name)

pub names_held : (folder : List ℕ) (files : Files) → All (λ name. IsHeld name files) (names_in folder files)
names_held folder files = All-filter (stands_in folder) (λ name. IsHeld name files) (keys files) (keys_held files)

-- ---- no two are the same

not_both : (r : Ordering) → T (is_lt r) → is_eq r ≡ true → ⊥
not_both Less low same = let no : false ≡ true = same in cc
not_both Equal low same = absurd low
not_both Greater low same = absurd low

front : (a b : Bool) → T (a && b) → T a
front true b both = tt
front false b both = absurd both

back : (a b : Bool) → T (a && b) → T b
back true b both = both
back false b both = absurd both

below_differs : (name : List ℕ) (es : List (List ℕ × List ℕ)) → T (below_all (slice_cmp nat_cmp) name es) → All (λ later. later ≢ name) (map (λ e. e.0) es)
below_differs name [] below = All-nil (λ later. later ≢ name)
below_differs name (e ∷ es) below =
    All-cons (λ later. later ≢ name) e.0 (map (λ e. e.0) es)
    (λ same. not_both (slice_cmp nat_cmp name name) (subst (λ (other : List ℕ). T (is_lt (slice_cmp nat_cmp name other))) same (front _ _ below)) (is_name_same name))
    (below_differs name es (back _ _ below))

pairs_cons : {A : Type 0} (R : A → A → Type 0) (x : A) (xs : List A) → All (R x) xs → AllPairs R xs → AllPairs R (x ∷ xs)
pairs_cons R x xs first rest zero zero d low below = absurd (omega arith)
pairs_cons R x xs first rest zero (suc j) d low below = first j d (omega arith)
pairs_cons R x xs first rest (suc i) zero d low below = absurd (omega arith)
pairs_cons R x xs first rest (suc i) (suc j) d low below = rest i j d (omega arith) (omega arith)

sorted_differ : (es : List (List ℕ × List ℕ)) → T (is_sorted (slice_cmp nat_cmp) es) → AllPairs (λ earlier later. later ≢ earlier) (map (λ e. e.0) es)
sorted_differ [] sorted = λ i j d low below. absurd (omega arith)
sorted_differ (e ∷ es) sorted =
    pairs_cons (λ earlier later. later ≢ earlier) e.0 (map (λ e. e.0) es) (below_differs e.0 es (front _ _ sorted)) (sorted_differ es (back _ _ sorted))

pub names_differ : (folder : List ℕ) (files : Files) → AllPairs (λ earlier later. later ≢ earlier) (names_in folder files)
names_differ folder files = AllPairs-filter (λ earlier later. later ≢ earlier) (stands_in folder) (keys files) (sorted_differ (entries files) (entries_sorted files))
