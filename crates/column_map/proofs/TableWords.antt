-- Laws of the words of a table in one list.
use Rattle.std.proofs.Common.{◌≡◌, ◌∙◌, ℕ, ◌+◌, ◌-◌, ◌*◌, ◌/◌, ◌%◌, ◌<◌, ◌≤◌, List, length, get_or, drop, ℤ, refl, sym, ap, arith}
use Rattle.std.specs.Prelude.{slice_index, slice_range}
use Rattle.std.proofs.lemmas.Grind.{same_number_lists}
use Rattle.std.proofs.lemmas.List.{get_or-drop, get_or-take, length-drop, length-take}
use Rattle.std.proofs.lemmas.List.FromFn.{get_or-map-range_with_len, length-map-range_with_len}
use Rattle.column_map.specs.Columns.{IsOffset, WordTable, place, rip_word, stride, table_of_image, table_words}
use Rattle.column_map.proofs.PlaceLaws.{place-from_first}

pub length-table_words : (c : ℕ) (table : WordTable) → length (table_words c table) ≡ c * stride
length-table_words c table = length-map-range_with_len (λ i. table (i % stride) (i / stride)) 0 (c * stride)

-- word i of a table is the word i / stride of the column i % stride
pub get_or-table_words : (c : ℕ) (table : WordTable) (i : ℕ) → i < c * stride → get_or (table_words c table) i 0 ≡ table (i % stride) (i / stride)
get_or-table_words c table i below = get_or-map-range_with_len (λ i. table (i % stride) (i / stride)) 0 (c * stride) i i 0 below (omega arith)

-- a run of words in which each column's words stand where a table has them is the table's words
pub table_words-run : (start c : ℕ) (table : WordTable) (words : List ℕ) → start + c * stride ≤ length words
    → ((j k : ℕ) → j < stride → k < c → slice_index words (start + k * stride + j) ≡ table j k)
    → slice_range words start (start + c * stride) ≡ table_words c table
table_words-run start c table words inside has = same_number_lists (slice_range words start (start + c * stride)) (table_words c table) sizes each
  where
    sizes : length (slice_range words start (start + c * stride)) ≡ length (table_words c table)
    sizes = omega (arith, length-take (start + c * stride - start) (drop start words), length-drop start words, length-table_words c table)

    each : (i : ℕ) → i < length (slice_range words start (start + c * stride)) → get_or (slice_range words start (start + c * stride)) i 0 ≡ get_or (table_words c table) i 0
    each i below =
        let low : i < c * stride = omega (arith, sizes, length-table_words c table) in
        let inside : i < start + c * stride - start = omega arith in
        let here : start + i ≡ start + i / stride * stride + i % stride = omega arith in
        get_or-take (start + c * stride - start) (drop start words) i 0 inside ∙ get_or-drop start words i 0 ∙ ap (slice_index words) here
        ∙ has (i % stride) (i / stride) (omega arith) (omega arith) ∙ sym (get_or-table_words c table i low)

-- the words that a rip at an offset has at the covered places, where it has a table's words there
pub table_words-covered : (c : ℕ) (d : ℤ) (table : WordTable) (rip : List ℕ) → IsOffset d → place d 0 0 + c * stride ≤ length rip
    → ((j k : ℕ) → j < stride → k < c → rip_word rip d j k ≡ table j k)
    → slice_range rip (place d 0 0) (place d 0 0 + c * stride) ≡ table_words c table
table_words-covered c d table rip offset inside has =
    table_words-run (place d 0 0) c table rip inside (λ j k column number. ap (slice_index rip) (sym (place-from_first d j k offset)) ∙ has j k column number)

-- tables that are the same in all columns have the same words
pub table_words-same : (c : ℕ) (table other : WordTable) → ((j k : ℕ) → j < stride → k < c → table j k ≡ other j k) → table_words c table ≡ table_words c other
table_words-same c table other same = same_number_lists (table_words c table) (table_words c other) (length-table_words c table ∙ sym (length-table_words c other)) each
  where
    each : (i : ℕ) → i < length (table_words c table) → get_or (table_words c table) i 0 ≡ get_or (table_words c other) i 0
    each i below =
        let low : i < c * stride = omega (arith, length-table_words c table) in
        get_or-table_words c table i low ∙ same (i % stride) (i / stride) (omega arith) (omega arith) ∙ sym (get_or-table_words c other i low)

-- the words of an image's table are those from its second stride on
pub table_words-image : (c : ℕ) (image : List ℕ) → stride + c * stride ≤ length image → table_words c (table_of_image image) ≡ slice_range image stride (stride + c * stride)
table_words-image c image inside = sym (table_words-run stride c (table_of_image image) image inside (λ j k column number. refl))
