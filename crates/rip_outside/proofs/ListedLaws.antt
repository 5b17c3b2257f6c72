-- The names of a folder after other names were written.
use Rattle.std.proofs.Common.{◌≡◌, ◌∙◌, ℕ, Bool, false, cond, List, [], ◌∷◌, map, Option, None, Some, refl, sym, ap, inl, inr}
use Rattle.std.specs.Prelude.{filter}
use Rattle.std.specs.Ordering.{nat_cmp}
use Rattle.std.specs.declared.cmp.Ordering.{Ordering}
use Rattle.std.specs.declared.cmp.Ordering.TheVariants.{Less, Equal, Greater}
use Rattle.std.specs.Cmp.Lexicographic.{nat_list_cmp_total, slice_cmp}
use Rattle.std.specs.FinMap.{entries, entries-insert, get, insert, remove}
use Rattle.std.specs.FinMap.Entries.{by_order, put}
use Rattle.rip_outside.specs.Files.{Files, after_put}
use Rattle.rip_outside.specs.Listing.{names_in, stands_in}
use Rattle.rip_outside.specs.Outputs.{Output, after_outputs, part_of}
use Rattle.rip_outside.proofs.FilesLaws.{get-insert_other, get-insert_same, get-remove_other, get-remove_same, same_files, same_or_other}

-- the keys of entries
abbrev names_of : List (List ℕ × List ℕ) → List (List ℕ)
names_of es = map (λ e. e.0) es

module _ (kept : List ℕ → Bool) (name bytes : List ℕ) (other : kept name ≡ false) where
  -- a name that isn't kept changes nothing of those that are
  kept_put : (es : List (List ℕ × List ℕ)) → filter kept (names_of (put (slice_cmp nat_cmp) name bytes es)) ≡ filter kept (names_of es)
  kept_put [] = rw other refl
  kept_put (e ∷ es) = by (slice_cmp nat_cmp name e.0) (kept_put es)
    where
      by : (order : Ordering) → filter kept (names_of (put (slice_cmp nat_cmp) name bytes es)) ≡ filter kept (names_of es)
          → filter kept (names_of (by_order order ((name, bytes) ∷ e ∷ es) ((e.0, bytes) ∷ es) (e ∷ put (slice_cmp nat_cmp) name bytes es))) ≡ filter kept (names_of (e ∷ es))
      by Less more = rw other refl
      by Equal more = refl
      by Greater more = ap (λ rest. cond (kept e.0) (e.0 ∷ rest) rest) more

-- a name that isn't held is removed already
removed_none : (name : List ℕ) (files : Files) → get files name ≡ None → remove files name ≡ files
removed_none name files none = same_files (remove files name) files (λ q. elim (same_or_other q name) [
  | inl is ↦ rw is (get-remove_same files name ∙ sym none)
  | inr other ↦ get-remove_other files name q other
])

-- a name that was held stands again where its bytes are put
put_again : (name bytes : List ℕ) (files : Files) → get files name ≡ Some bytes → insert (remove files name) name bytes ≡ files
put_again name bytes files held = same_files (insert (remove files name) name bytes) files (λ q. elim (same_or_other q name) [
  | inl is ↦ rw is (get-insert_same (remove files name) name bytes ∙ sym held)
  | inr other ↦ get-insert_other (remove files name) name bytes q other ∙ get-remove_other files name q other
])

module _ (folder : List ℕ) where
  inserted : (name bytes : List ℕ) (files : Files) → stands_in folder name ≡ false → names_in folder (insert files name bytes) ≡ names_in folder files
  inserted name bytes files other =
      ap (λ es. filter (stands_in folder) (names_of es)) (entries-insert nat_list_cmp_total files name bytes) ∙ kept_put (stands_in folder) name bytes other (entries files)

  removed : (name : List ℕ) (files : Files) → stands_in folder name ≡ false → names_in folder (remove files name) ≡ names_in folder files
  removed name files other = by (get files name) refl
    where
      by : (held : Option (List ℕ)) → get files name ≡ held → names_in folder (remove files name) ≡ names_in folder files
      by None is = ap (names_in folder) (removed_none name files is)
      by (Some bytes) is = sym (inserted name bytes (remove files name) other) ∙ ap (names_in folder) (put_again name bytes files is)

  -- none of these outputs stands in the folder, and none of their parts
  abbrev pub StandsNone : List Output → Type 0
  StandsNone [] = Unit {0}
  StandsNone (out ∷ outs) = (stands_in folder out.name ≡ false) × (stands_in folder (part_of out.name) ≡ false) × StandsNone outs

  pub listed_same : (outs : List Output) (files : Files) → StandsNone outs → names_in folder (after_outputs outs files) ≡ names_in folder files
  listed_same [] files none = refl
  listed_same (out ∷ outs) files none =
      listed_same outs (after_put (part_of out.name) out.name out.bytes files) none.2
      ∙ inserted out.name out.bytes (remove files (part_of out.name)) none.0 ∙ removed (part_of out.name) files none.1
