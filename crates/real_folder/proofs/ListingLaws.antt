-- Names in a folder, and their order.
use Rattle.std.proofs.Common.{◌≡◌, ℕ, List, [], ◌∷◌, ◌++◌, true, nat_eq, eq-eqb, refl, sym, ◌∙◌, subst, map}
use Rattle.std.specs.Prelude.{String, All}
use Rattle.std.specs.String.{string_bytes, string_cmp}
use Rattle.std.specs.Ordering.{nat_cmp}
use Rattle.std.specs.Cmp.Lexicographic.{pointwise, slice_cmp}
use Rattle.std.specs.BTreeSet.{insert_key}
use Rattle.std.specs.List.{AllByRecursion}
use Rattle.std.specs.List.Sorted.{IsStrictlySortedBy}
use Rattle.std.specs.declared.alloc.Global.{Global}
use Rattle.std.specs.declared.cmp.Ordering.TheVariants.{Less}
use Rattle.std.proofs.Math.Seq.{take-append_seam, drop-append_seam}
use Rattle.std.proofs.lemmas.List.Elements.{All-map}
use Rattle.std.proofs.lemmas.Map.Views.{All-insert_key}
use Rattle.rip_outside.specs.Listing.{is_own_name, stands_in}

same_bytes : (bytes : List ℕ) → pointwise nat_eq bytes bytes ≡ true
same_bytes [] = refl
same_bytes (b ∷ bs) = rw (eq-eqb b b refl) (same_bytes bs)

-- a file's own name behind its folder's
pub own_stands : (folder own : List ℕ) → is_own_name own ≡ true → stands_in folder (folder ++ own) ≡ true
own_stands folder own is = rw (take-append_seam folder own, drop-append_seam folder own, same_bytes folder) is

-- one string before all of these, by their bytes
first_text : (s : String Global) (ss : List (String Global)) → AllByRecursion (λ t. string_cmp s t ≡ Less) ss → AllByRecursion (λ bytes. slice_cmp nat_cmp (string_bytes s) bytes ≡ Less) (map string_bytes ss)
first_text s [] below = tt
first_text s (t ∷ ts) below = (below.0, first_text s ts below.1)

-- strings in their order are their bytes in order
pub sorted_texts : (ss : List (String Global)) → IsStrictlySortedBy string_cmp ss → IsStrictlySortedBy (slice_cmp nat_cmp) (map string_bytes ss)
unfolding IsStrictlySortedBy
sorted_texts [] sorted = tt
sorted_texts (s ∷ ss) sorted = (first_text s ss sorted.0, sorted_texts ss sorted.1)

-- one more name that stands in the folder
pub grown_inside : (folder : List ℕ) (old grown now : List (String Global)) (name : String Global) → now ≡ grown → grown ≡ insert_key string_cmp old name
    → All (λ s. stands_in folder (string_bytes s) ≡ true) old → stands_in folder (string_bytes name) ≡ true → All (λ s. stands_in folder (string_bytes s) ≡ true) now
grown_inside folder old grown now name same is inside stands =
    subst (All (λ s. stands_in folder (string_bytes s) ≡ true)) (sym (same ∙ is)) (All-insert_key string_cmp name (λ s. stands_in folder (string_bytes s) ≡ true) old inside stands)

-- strings that stand in the folder, as names
pub texts_inside : (folder : List ℕ) (ss : List (String Global)) (names : List (List ℕ)) → names ≡ map string_bytes ss → All (λ s. stands_in folder (string_bytes s) ≡ true) ss
    → All (λ name. stands_in folder name ≡ true) names
texts_inside folder ss names is inside = subst (All (λ name. stands_in folder name ≡ true)) (sym is) (All-map (λ name. stands_in folder name ≡ true) string_bytes ss inside)

-- no names are in order
pub none_sorted : (names : List (List ℕ)) → names ≡ [] → IsStrictlySortedBy (slice_cmp nat_cmp) names
unfolding IsStrictlySortedBy
none_sorted names is = subst (IsStrictlySortedBy (slice_cmp nat_cmp)) (sym is) tt
