-- Offsets and other numbers as they are written, and as `parse` reads them.
use Rattle.std.proofs.Common.{◌≡◌, ◌≢◌, ℕ, ◌^◌, ◌<◌, ◌≤◌, List, [], ◌∷◌, length, refl, sym, ap, ◌∙◌, ne_eqb, Bool, true, false, cond, ℤ, pos, negsuc, ◌≤ℤ◌, FitsSigned, w32, Some, None, arith, rules}
use Rattle.std.specs.Prelude.{neg_ℤ}
use Rattle.std.specs.Str.{all_ascii_digits}
use Rattle.std.specs.Str.Parse.{IsNumeral, digits_value, signed_digits_value, starts_with_minus, without_leading_plus, without_leading_sign}
use Rattle.std.proofs.lemmas.Int.{ints}
use Rattle.std.proofs.lemmas.Bool.{false_from_ne_true}
use Rattle.std.proofs.lemmas.Bool.Decides.{nat_tests}
use Rattle.std.proofs.lemmas.Str.Parse.{IsNumeralModel, numerals_by_value, tells_all_ascii_digits}
use Rattle.rip_words.specs.Command.{is_number, number_of, offset_of}

own : IsNumeralModel (λ ds. all_ascii_digits ds ≡ true) (digits_value 10)
own = numerals_by_value _ tells_all_ascii_digits

-- the size of a number with a sign that is in range
size_in_range : (minus : Bool) (n : ℕ) (z : ℤ) → z ≡ cond minus (neg_ℤ (pos n)) (pos n) → negsuc 5878 ≤ℤ z → z ≤ℤ pos 5879 → n ≤ 5879
size_in_range true n z is least most = omega (arith, ints)
size_in_range false n z is least most = omega (arith, ints)

size_fits : (minus : Bool) (n : ℕ) → n ≤ 5879 → FitsSigned w32 (cond minus (neg_ℤ (pos n)) (pos n))
size_fits true n small = search (rules, arith, ints)
size_fits false n small = search (rules, arith, ints)

-- a number that `parse` read, and that is short and in range
pub offset_that_was_read : (number : List ℕ) (offset : ℤ) → IsNumeral 10 (without_leading_sign number) → offset ≡ signed_digits_value 10 number
    → length (without_leading_sign number) ≤ 4 → negsuc 5878 ≤ℤ offset → offset ≤ℤ pos 5879 → Some offset ≡ offset_of number
offset_that_was_read number offset numeral is short least most =
    let digits : all_ascii_digits (without_leading_sign number) ≡ true = own.from _ numeral.1 in
    let some : 1 ≤ length (without_leading_sign number) = numeral.0 in
    let small : digits_value 10 (without_leading_sign number) ≤ 5879 = size_in_range (starts_with_minus number) _ offset is least most in
    grind (arith, nat_tests)

-- a number that `parse` refuses has no digits, or too large a value
pub offset_that_was_refused : (number : List ℕ) → (IsNumeral 10 (without_leading_sign number) × FitsSigned w32 (signed_digits_value 10 number) → ⊥) → None ≡ offset_of number
offset_that_was_refused number refused =
    let kept : all_ascii_digits (without_leading_sign number) ≡ true → 1 ≤ length (without_leading_sign number) → digits_value 10 (without_leading_sign number) ≤ 5879 → ⊥ =
    λ digits some small. refused ((some, own.to _ digits), size_fits (starts_with_minus number) _ small) in
    grind (arith, nat_tests)

-- ---- numbers with no sign

-- a text that does not begin with "+" is read whole
without_plus : (word : List ℕ) → ((rest : List ℕ) → word ≢ 43 ∷ rest) → without_leading_plus word ≡ word
without_plus [] plain = refl
without_plus (first ∷ rest) plain = let other : first ≢ 43 = λ e. plain rest (ap (λ c. c ∷ rest) e) in rw (ne_eqb first 43 other) refl

-- a number that `parse` read, and that is short, in range and without a sign
pub number_that_was_read : (digits least most : ℕ) (word : List ℕ) (number : ℕ) → ((rest : List ℕ) → word ≢ 43 ∷ rest) → IsNumeral 10 (without_leading_plus word)
    → number ≡ digits_value 10 (without_leading_plus word) → length word ≤ digits → least ≤ number → number ≤ most → Some number ≡ number_of digits least most word
number_that_was_read digits least most word number plain numeral is short low high =
    let whole : without_leading_plus word ≡ word = without_plus word plain in
    let kept : IsNumeral 10 word = rw (sym whole) numeral in
    let tests : all_ascii_digits word ≡ true = own.from _ kept.1 in
    let some : 1 ≤ length word = kept.0 in
    let value : number ≡ digits_value 10 word = is ∙ ap (digits_value 10) whole in
    grind (arith, nat_tests)

number_in_range : (digits least most : ℕ) (word : List ℕ) → is_number digits least most word ≡ true → (all_ascii_digits word ≡ true) × (1 ≤ length word) × (digits_value 10 word ≤ most)
number_in_range digits least most word tests = (grind (arith, nat_tests), grind (arith, nat_tests), grind (arith, nat_tests))

-- a number that `parse` refuses has no digits, or too large a value
pub number_that_was_refused : (digits least most : ℕ) (word : List ℕ) → ((rest : List ℕ) → word ≢ 43 ∷ rest) → most < 2 ^ 32
    → (IsNumeral 10 (without_leading_plus word) × (digits_value 10 (without_leading_plus word) < 2 ^ 32) → ⊥) → None ≡ number_of digits least most word
number_that_was_refused digits least most word plain fits refused =
    let whole : without_leading_plus word ≡ word = without_plus word plain in
    let kept : is_number digits least most word ≡ true → ⊥ =
    λ tests. (let are = number_in_range digits least most word tests in refused (rw whole (are.1, own.to _ are.0), rw whole (omega arith))) in
    rw (false_from_ne_true (is_number digits least most word) kept) refl
