-- What a table of known names has, and which files it has read.
use Rattle.std.proofs.Common.{◌≡◌, ◌≢◌, ◌∙◌, sym, ℕ, suc, ◌<◌, Bool, true, false, cond, ◌==◌, ◌&&◌, ◌||◌, List, [], ◌∷◌, length, Option, None, Some, refl, ap, map, arith}
use Rattle.std.specs.Prelude.{slice_index_or, unwrap_or}
use Rattle.std.specs.List.{list_any, slice_get, HoldsAt, Any}
use Rattle.std.specs.Map.{lookup}
use Rattle.std.specs.Str.{bytes_eq}
use Rattle.std.specs.Ordering.{nat_cmp}
use Rattle.std.specs.Cmp.Lexicographic.{slice_cmp}
use Rattle.std.specs.BTreeMap.{IsOrdered, UpdatesBy, values, get_by_text}
use Rattle.std.specs.String.{string_bytes, string_cmp, string_cmp_total}
use Rattle.std.proofs.lemmas.Map.Entries.{btree_map_get_place}
use Rattle.std.proofs.lemmas.Map.Text.{btree_map_updates_text}
use Rattle.std.proofs.lemmas.Bool.{eqb-true, eq-eqb, false_from_ne_true}
use Rattle.std.proofs.lemmas.Slice.Eq.{bytes_eq-Decides}
use Rattle.std.proofs.Math.Bool.{or-true}
use Rattle.std.proofs.lemmas.List.{get_or_default}
use Rattle.std.proofs.lemmas.List.Folds.{list_any-from_Any, Any-from_list_any}
use Rattle.real_folder.specs.declared.file_state.FileState.{FileState}
use Rattle.real_folder.specs.declared.known_names.Known.{Known}
use Rattle.real_folder.specs.declared.known_names.KnownNames.{KnownNames}
use Rattle.real_folder.specs.FileState.{IsSameFile}
use Rattle.real_folder.specs.KnownNames.{nothing, known_at, is_read_as, is_found_by, Learns, WasRead}

bytes_same : (bs : List ℕ) → bytes_eq bs bs ≡ true
bytes_same bs = (bytes_eq-Decides bs bs).1 refl

bytes_other : (bs q : List ℕ) → q ≢ bs → bytes_eq bs q ≡ false
bytes_other bs q ne = false_from_ne_true _ (λ same. ne (sym ((bytes_eq-Decides bs q).0 same)))

-- the table's change at a name
changed_at : (name : List ℕ) (old new : KnownNames) (known : Option Known) → UpdatesBy string_cmp (λ k. slice_cmp nat_cmp name (string_bytes k)) old.names new.names known
    → (other : List ℕ) → known_at new other ≡ unwrap_or (cond (bytes_eq name other) known (get_by_text old.names other)) nothing
changed_at name old new known updates other = ap (λ (o : Option Known). unwrap_or o nothing) (btree_map_updates_text name old.names new.names known updates other)

learns_option : (name : List ℕ) (known : Option Known) (old new : KnownNames) → UpdatesBy string_cmp (λ k. slice_cmp nat_cmp name (string_bytes k)) old.names new.names known
    → Learns name (unwrap_or known nothing) old new
learns_option name known old new updates = record {
  this = changed_at name old new known updates name ∙ ap (λ (b : Bool). unwrap_or (cond b known (get_by_text old.names name)) nothing) (bytes_same name);
  others = λ other ne. changed_at name old new known updates other ∙ ap (λ (b : Bool). unwrap_or (cond b known (get_by_text old.names other)) nothing) (bytes_other name other ne);
}

pub learns : (name : List ℕ) (known : Known) (old new : KnownNames) → UpdatesBy string_cmp (λ k. slice_cmp nat_cmp name (string_bytes k)) old.names new.names (Some known) → Learns name known old new
learns name known old new updates = learns_option name (Some known) old new updates

pub learns_nothing : (name : List ℕ) (old new : KnownNames) → UpdatesBy string_cmp (λ k. slice_cmp nat_cmp name (string_bytes k)) old.names new.names None → Learns name nothing old new
learns_nothing name old new updates = learns_option name None old new updates

both_true : (a b : Bool) → (a && b) ≡ true → (a ≡ true) × (b ≡ true)
both_true true b e = (refl, e)
both_true false b e = let clash : false ≡ true = e in cc

abbrev is_same : FileState → FileState → Bool
is_same file state = (state.device == file.device) && (state.number == file.number)

same_file : (file state : FileState) → is_same file state ≡ true → IsSameFile state file
same_file file state e =
    let both = both_true _ _ e in
    (eqb-true _ _ both.0, eqb-true _ _ both.1)

same_test : (file state : FileState) → IsSameFile state file → is_same file state ≡ true
same_test file state same = rw (eq-eqb _ _ same.0, eq-eqb _ _ same.1) refl

module _ {K X : Type 0} where
  -- at some place an entry has a value that passes the test
  record Passing (p : X → Bool) (es : List (K × X)) : Type 0 where
    place : ℕ
    key : K
    value : X
    there : slice_get es place ≡ Some (key, value)
    passes : p value ≡ true

  later : (p : X → Bool) (e : K × X) (es : List (K × X)) → Passing p es → Passing p (e ∷ es)
  later p e es passing = record { place = suc passing.place; key = passing.key; value = passing.value; there = passing.there; passes = passing.passes }

  passing_of_any : (p : X → Bool) (es : List (K × X)) → list_any p (map (λ e. e.1) es) ≡ true → Passing p es
  passing_of_any p [] e = let clash : false ≡ true = e in cc
  passing_of_any p (f ∷ es) e = by (passing_of_any p es) (p f.1) refl
    where
      by : (list_any p (map (λ e. e.1) es) ≡ true → Passing p es) → (b : Bool) → p f.1 ≡ b → Passing p (f ∷ es)
      by rest true is = record { place = 0; key = f.0; value = f.1; there = refl; passes = is }
      by rest false is = later p f es (rest (rw is at e))

  -- a value that is found and passes the test is one of all
  any_of_lookup : (t : K → Bool) (p : X → Bool) (es : List (K × X)) (v : X) → lookup t es ≡ Some v → p v ≡ true → list_any p (map (λ e. e.1) es) ≡ true
  any_of_lookup t p [] v found passes = let clash : None ≡ Some v = found in cc
  any_of_lookup t p (f ∷ es) v found passes = by (λ h. any_of_lookup t p es v h passes) (t f.0) refl
    where
      by : (lookup t es ≡ Some v → list_any p (map (λ e. e.1) es) ≡ true) → (b : Bool) → t f.0 ≡ b → (p f.1 || list_any p (map (λ e. e.1) es)) ≡ true
      by rest true is =
          let same : Some f.1 ≡ Some v = rw is at found in
          let first : p f.1 ≡ true = grind arith in
          rw first refl
      by rest false is = let found_later = rest (rw is at found) in rw found_later (or-true (p f.1))

-- what is true of each known name that was read as the file
abbrev pub IsReadAs : FileState → Known → Type 0
IsReadAs file known = is_read_as file known ≡ true

read_at : (names : KnownNames) (file : FileState) (known : Known) (name : List ℕ) → get_by_text names.names name ≡ Some known → IsReadAs file known → WasRead file names
read_at names file known name at passes = by known.first refl passes
  where
    by : (first : Option FileState) → known.first ≡ first → is_found_by first file ≡ true → WasRead file names
    by None is passes = let clash : false ≡ true = passes in cc
    by (Some state) is passes = (name, state, ap (λ (o : Option Known). (unwrap_or o nothing).first) at ∙ is, same_file file state passes)

-- a value of the table is one that some name has
pub read_from_place : (names : KnownNames) (file : FileState) → IsOrdered string_cmp names.names
    → (k : ℕ) → k < length (values names.names) → HoldsAt (IsReadAs file) (values names.names) k → WasRead file names
read_from_place names file ordered k below holds =
    let vs = values names.names in
    let v = slice_index_or vs k nothing in
    let any = list_any-from_Any (is_read_as file) vs (k, v, below, get_or_default vs k v nothing below, holds nothing) in
    let passing = passing_of_any (is_read_as file) names.names.entries any in
    let at = btree_map_get_place string_cmp_total names.names passing.place passing.key passing.value ordered passing.there in
    read_at names file passing.value (string_bytes passing.key) at passing.passes

-- what is known of a name that was read as the file
known_as : (file state : FileState) (known : Known) → known.first ≡ Some state → IsSameFile state file → IsReadAs file known
known_as file state known is same = rw is (same_test file state same)

pub any_from_read : (names : KnownNames) (file : FileState) → WasRead file names → Any (IsReadAs file) (values names.names)
any_from_read names file (name, state, is, same) = by (get_by_text names.names name) refl is
  where
    by : (found : Option Known) → get_by_text names.names name ≡ found → (unwrap_or found nothing).first ≡ Some state → Any (IsReadAs file) (values names.names)
    by None at is = let clash : None ≡ Some state = is in cc
    by (Some known) at is =
        let passes : IsReadAs file known = known_as file state known is same in
        Any-from_list_any (is_read_as file) (values names.names) (any_of_lookup _ (is_read_as file) names.names.entries known at passes)
