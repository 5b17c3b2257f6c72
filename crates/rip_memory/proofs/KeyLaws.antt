-- The names of a table's files in their order.
use Rattle.std.proofs.Common.{◌≡◌, ℕ, List, [], ◌∷◌, Result, Ok, Err, true, refl, sym, ◌∙◌, ap, subst, map}
use Rattle.std.specs.Prelude.{Vec, String, All, IfOk}
use Rattle.std.specs.String.{string_bytes, string_cmp}
use Rattle.std.specs.Ordering.{nat_cmp}
use Rattle.std.specs.Map.{keys_of}
use Rattle.std.specs.Cmp.Lexicographic.{slice_cmp, nat_list_cmp_total}
use Rattle.std.specs.FinMap.{empty, entries, keys, put, entries-insert, len-entries, len-empty}
use Rattle.std.specs.FinMap.Entries.{by_order}
use Rattle.std.specs.List.Sorted.{IsStrictlySortedBy}
use Rattle.std.specs.declared.alloc.Global.{Global}
use Rattle.std.proofs.lemmas.List.{nil_from_length}
use Rattle.std.proofs.lemmas.List.Elements.{filter_passes}
use Rattle.std.proofs.lemmas.Map.Keys.{sorted_head, sorted_tail}
use Rattle.rip_outside.specs.declared.fault.ShelfFail.{ShelfFail}
use Rattle.rip_outside.specs.Files.{Files}
use Rattle.rip_outside.specs.Listing.{names_in, stands_in}
use Rattle.rip_memory.specs.FileTable.{files_in}

abbrev Entry : Type 0
Entry = String Global × Vec ℕ Global

abbrev file_of : Entry → List ℕ × List ℕ
file_of e = (string_bytes e.0, e.1.items)

nothing_first : entries (empty {X = List ℕ} {R = slice_cmp nat_cmp}) ≡ []
nothing_first = nil_from_length _ (sym (len-entries (empty {X = List ℕ} {R = slice_cmp nat_cmp})) ∙ len-empty (slice_cmp nat_cmp) (List ℕ))

-- a file whose name is before all others is put before them
put_first : (e : Entry) (es : List Entry) → IsStrictlySortedBy string_cmp (keys_of (e ∷ es)) → put (slice_cmp nat_cmp) (string_bytes e.0) e.1.items (map file_of es) ≡ map file_of (e ∷ es)
put_first e [] sorted = refl
put_first e (f ∷ fs) sorted =
    let k = string_bytes e.0 in
    let below = sorted_head string_cmp e.0 (keys_of (f ∷ fs)) sorted in
    ap (λ o. by_order o ((k, e.1.items) ∷ map file_of (f ∷ fs)) ((string_bytes f.0, e.1.items) ∷ map file_of fs) (file_of f ∷ put (slice_cmp nat_cmp) k e.1.items (map file_of fs))) below.0

-- entries whose names rise are the map's
entries_in : (es : List Entry) → IsStrictlySortedBy string_cmp (keys_of es) → entries (files_in es) ≡ map file_of es
entries_in [] sorted = nothing_first
entries_in (e ∷ es) sorted =
    entries-insert nat_list_cmp_total (files_in es) (string_bytes e.0) e.1.items
    ∙ ap (put (slice_cmp nat_cmp) (string_bytes e.0) e.1.items) (entries_in es (sorted_tail string_cmp e.0 (keys_of es) sorted))
    ∙ put_first e es sorted

names_of : (es : List Entry) → map (λ e. e.0) (map file_of es) ≡ map string_bytes (keys_of es)
names_of [] = refl
names_of (e ∷ es) = ap (λ names. string_bytes e.0 ∷ names) (names_of es)

-- the map's names are the table's, in their order
pub keys_in : (es : List Entry) → IsStrictlySortedBy string_cmp (keys_of es) → keys (files_in es) ≡ map string_bytes (keys_of es)
keys_in es sorted = ap (map (λ e. e.0)) (entries_in es sorted) ∙ names_of es

-- each name of a folder stands in it
pub listed_inside : (folder : List ℕ) (files : Files) (result : Result (List (List ℕ)) ShelfFail) → IfOk result (λ names. names ≡ names_in folder files) → IfOk result (λ names. All (λ name. stands_in folder name ≡ true) names)
listed_inside folder files (Ok names) is = subst (All (λ name. stands_in folder name ≡ true)) (sym is) (filter_passes (stands_in folder) (keys files))
listed_inside folder files (Err fail) is = tt
