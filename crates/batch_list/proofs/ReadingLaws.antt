-- Arrays, one element after the other.
use Rattle.std.proofs.Common.{◌≡◌, ℕ, ◌+◌, ◌<◌, ◌≤◌, Bool, true, false, cond, List, [], ◌∷◌, ◌++◌, length, map, Option, None, Some, option_map, Result, Ok, Err, refl, ap, sym, ◌∙◌, arith, inl, inr, get_or, drop, append_assoc}
use Rattle.std.specs.Prelude.{IsUtf8}
use Rattle.std.specs.Str.{is_utf8}
use Rattle.std.proofs.lemmas.Bool.{cases_Bool}
use Rattle.std.proofs.lemmas.Bool.Decides.{nat_tests}
use Rattle.std.proofs.lemmas.List.{append-nil, drop_all, drop_more, length-map}
use Rattle.std.proofs.lemmas.Str.{IsUtf8-from_is_utf8, is_utf8-from_IsUtf8}
use Rattle.std.specs.List.{enumerate_from, filter_map, list_all}
use Rattle.std.specs.Result.{result_map_both}
use Rattle.toml.specs.Data.{Data, Members, as_str}
use Rattle.toml.specs.Parse.{parse_document}
use Rattle.toml.specs.View.{items_view, view}
use Rattle.toml.specs.declared.value.Value.{Value}
use Rattle.batch_list.specs.declared.fail.ListKind.{ListKind}
use Rattle.batch_list.specs.declared.fail.ListKind.TheVariants.{NoDiscs, TooMany, NotToml}
use Rattle.batch_list.specs.declared.fail.ListFail.{ListFail}
use Rattle.batch_list.specs.declared.fail.ListFail.TheVariants.{Refused, Oom}
use Rattle.batch_list.specs.Reading.{Lists, all_read, all_texts, disc_reading, discs_in, discs_reading, elements, is_text, list_reading}

-- the elements of an array of values
pub elements_view : (values : List Value) → elements (items_view values) ≡ map view values
elements_view [] = refl
elements_view (first ∷ rest) = ap (λ others. view first ∷ others) (elements_view rest)

-- ---- texts

-- the texts that were read, and those that are still to be read
abbrev pub texts_after : List (List ℕ) → Option (List (List ℕ)) → Option (List (List ℕ))
texts_after done rest = option_map (λ others. done ++ others) rest

pub no_texts_before : (rest : Option (List (List ℕ))) → texts_after [] rest ≡ rest
no_texts_before None = refl
no_texts_before (Some others) = refl

one_text : (done : List (List ℕ)) (text : List ℕ) (others : List (List ℕ)) (test : Bool)
    → texts_after done (cond test (Some (text ∷ others)) None) ≡ texts_after (done ++ text ∷ []) (cond test (Some others) None)
one_text done text others true = ap Some (sym (append_assoc done (text ∷ []) others))
one_text done text others false = refl

-- an element that is a text
pub next_text : (done : List (List ℕ)) (text : List ℕ) (value : Data) (rest : List Data) → as_str value ≡ Some text
    → texts_after done (all_texts (value ∷ rest)) ≡ texts_after (done ++ text ∷ []) (all_texts rest)
next_text done text value rest e = rw e (one_text done text (filter_map as_str rest) (list_all is_text rest))

-- an element that is none
pub no_text : (done : List (List ℕ)) (value : Data) (rest : List Data) → as_str value ≡ None → texts_after done (all_texts (value ∷ rest)) ≡ None
no_text done value rest e = rw e refl

-- ---- discs

-- the discs from this number on
abbrev pub discs_from : ℕ → List Data → Result (List (List (List ℕ))) ListKind
discs_from number discs = all_read (map (λ numbered. disc_reading numbered.0 numbered.1) (enumerate_from number discs))

-- what was read, and what is still to be read
abbrev pub read_after : {A E : Type 0} → List A → Result (List A) E → Result (List A) E
read_after done rest = result_map_both (λ others. done ++ others) (λ refusal. refusal) rest

pub none_read_before : {A E : Type 0} → (rest : Result (List A) E) → read_after [] rest ≡ rest
none_read_before (Ok others) = refl
none_read_before (Err refusal) = refl

one_read : {A E : Type 0} → (done : List A) (first : A) (rest : Result (List A) E)
    → read_after done (result_map_both (λ others. first ∷ others) (λ refusal. refusal) rest) ≡ read_after (done ++ first ∷ []) rest
one_read done first (Ok others) = ap Ok (sym (append_assoc done (first ∷ []) others))
one_read done first (Err refusal) = refl

-- a disc that is read
pub next_disc : (number : ℕ) (disc : Data) (rest : List Data) (words : List (List ℕ)) (done : List (List (List ℕ))) → disc_reading number disc ≡ Ok words
    → read_after done (discs_from number (disc ∷ rest)) ≡ read_after (done ++ words ∷ []) (discs_from (number + 1) rest)
next_disc number disc rest words done e = rw e (one_read done words (discs_from (number + 1) rest))

-- a disc that is refused
pub refused_disc : (number : ℕ) (disc : Data) (rest : List Data) (kind : ListKind) (done : List (List (List ℕ))) → disc_reading number disc ≡ Err kind
    → read_after done (discs_from number (disc ∷ rest)) ≡ Err kind
refused_disc number disc rest kind done e = rw e refl

-- the disc at this index is the next one
pub disc_left : (values : List Value) (index number : ℕ) (value : Value) (done : List (List (List ℕ))) → index < length values → value ≡ get_or values index value
    → read_after done (discs_from number (map view (drop index values))) ≡ read_after done (discs_from number (view value ∷ map view (drop (index + 1) values)))
disc_left values index number value done within is = rw (drop_more values index value within) (ap (λ first. read_after done (discs_from number (view first ∷ map view (drop (index + 1) values)))) (sym is))

-- no disc is left
pub none_left : (values : List Value) (index number : ℕ) (done : List (List (List ℕ))) → length values ≤ index
    → read_after done (discs_from number (map view (drop index values))) ≡ Ok done
none_left values index number done past = rw (drop_all index values past) (ap Ok (append-nil done))

-- the fail of a disc is that of the list
pub fail_of_disc : (fail : ListFail) (number : ℕ) (disc : Data) (rest : List Data) (done : List (List (List ℕ))) (whole : Result (List (List (List ℕ))) ListKind)
    → Lists {A = List (List ℕ)} (Err fail) (disc_reading number disc) → whole ≡ read_after done (discs_from number (disc ∷ rest)) → Lists {A = List (List (List ℕ))} (Err fail) whole
fail_of_disc (Refused kind) number disc rest done whole fails e = e ∙ refused_disc number disc rest kind done fails
fail_of_disc Oom number disc rest done whole fails e = tt

-- ---- how many discs there are

pub no_discs : (values : List Value) → length values ≡ 0 → discs_reading (map view values) ≡ Err NoDiscs
unfolding discs_reading
no_discs values none = rw (length-map values view, none) refl

pub too_many : (values : List Value) → 1000 < length values → discs_reading (map view values) ≡ Err TooMany
unfolding discs_reading
too_many values many = rw (length-map values view) (grind (arith, nat_tests))

pub some_discs : (values : List Value) → 0 < length values → length values ≤ 1000 → discs_reading (map view values) ≡ discs_from 1 (map view values)
unfolding discs_reading
some_discs values some few = rw (length-map values view) (grind (arith, nat_tests))

-- ---- the text

pub document_read : (text : List ℕ) (document : Members) → IsUtf8 text → parse_document text ≡ Some document → list_reading text ≡ discs_reading (discs_in document)
unfolding list_reading
document_read text document utf8 e = rw (is_utf8-from_IsUtf8 text utf8, e) refl

pub no_document : (text : List ℕ) → (IsUtf8 text → parse_document text ≡ None) → list_reading text ≡ Err NotToml
unfolding list_reading
no_document text none =
    elim (cases_Bool (is_utf8 text)) [
      | inl utf8 ↦ rw (utf8, none (IsUtf8-from_is_utf8 text utf8)) refl
      | inr other ↦ rw other refl
    ]
