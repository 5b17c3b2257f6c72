-- Numbers in two digits, and times, as they are read.
use Rattle.std.proofs.Common.{◌≡◌, ℕ, ◌+◌, ◌*◌, ◌/◌, ◌%◌, ◌<◌, ◌≤◌, List, ◌∷◌, ◌++◌, true, false, Some, refl, ap, arith}
use Rattle.std.specs.Prelude.{◌==◌, nat_lt, nat_le}
use Rattle.std.specs.Char.{digit_value, is_ascii_digit}
use Rattle.std.specs.List.{after_first, before_first}
use Rattle.std.specs.Str.{all_ascii_digits}
use Rattle.std.specs.Str.Parse.{digits_value}
use Rattle.std.proofs.lemmas.Bool.Decides.{nat_tests}
use Rattle.cue_sheet.specs.Lines.{is_blank}
use Rattle.cue_sheet.specs.Parts.{is_colon, is_quote, label_of, number_under, time_of}
use Rattle.track_split.specs.Sheets.{time_text, two_digits}
use Rattle.track_split.proofs.ClearLaws.{after-at, before-at}

-- what is known of the byte of a digit
pub record IsDigit (digit : ℕ) : Type 0 where
  pub tests : is_ascii_digit (48 + digit) ≡ true
  pub value : digit_value (48 + digit) ≡ digit
  pub not_blank : is_blank (48 + digit) ≡ false
  pub not_colon : is_colon (48 + digit) ≡ false
  pub not_quote : is_quote (48 + digit) ≡ false
  pub not_feed : ((48 + digit) == 10) ≡ false
  pub not_return : ((48 + digit) == 13) ≡ false

pub digit_is : (digit : ℕ) → digit < 10 → IsDigit digit
digit_is digit below = record {
  tests = grind (arith, nat_tests);
  value = grind (arith, nat_tests);
  not_blank = grind (arith, nat_tests);
  not_colon = grind (arith, nat_tests);
  not_quote = grind (arith, nat_tests);
  not_feed = grind (arith, nat_tests);
  not_return = grind (arith, nat_tests);
}

tens_below : (number : ℕ) → number < 100 → number / 10 < 10
tens_below number below = omega arith

ones_below : (number : ℕ) → number % 10 < 10
ones_below number = omega arith

pub tens : (number : ℕ) → number < 100 → IsDigit (number / 10)
tens number below = digit_is (number / 10) (tens_below number below)

pub ones : (number : ℕ) → IsDigit (number % 10)
ones number = digit_is (number % 10) (ones_below number)

-- a number in two digits is read as it is
value_of_two : (number : ℕ) → number < 100 → digits_value 10 (two_digits number) ≡ number
value_of_two number below =
    let first = (tens number below).value in
    let second = (ones number).value in
    rw (first, second) (omega arith)

digits_of_two : (number : ℕ) → number < 100 → all_ascii_digits (two_digits number) ≡ true
digits_of_two number below = rw ((tens number below).tests, (ones number).tests) refl

below_limit : (number limit : ℕ) → number < limit → nat_lt number limit ≡ true
below_limit number limit below = grind (arith, nat_tests)

pub two_under : (most limit number : ℕ) → 2 ≤ most → number < limit → number < 100 → number_under most limit (two_digits number) ≡ Some number
unfolding number_under
two_under most limit number enough under below =
    let fits : nat_le 2 most ≡ true = grind (arith, nat_tests) in
    rw (digits_of_two number below, fits, value_of_two number below, below_limit number limit under) refl

pub label_of_two : (number : ℕ) → number < 100 → label_of (two_digits number) ≡ Some number
label_of_two number below = two_under 2 100 number (omega arith) below below

-- ---- times

-- the parts of a time of less than 100 minutes
pub minutes_below : (sectors : ℕ) → sectors < 450000 → sectors / 75 / 60 < 100
minutes_below sectors below = omega arith

pub seconds_below : (sectors : ℕ) → sectors / 75 % 60 < 60
seconds_below sectors = omega arith

pub frames_below : (sectors : ℕ) → sectors % 75 < 75
frames_below sectors = omega arith

-- two digits before a colon
before_colon : (number : ℕ) (rest : List ℕ) → number < 100 → before_first is_colon (two_digits number ++ 58 ∷ rest) ≡ two_digits number
before_colon number rest below = before-at is_colon (two_digits number) rest 58 ((tens number below).not_colon, ((ones number).not_colon, tt)) refl

after_colon : (number : ℕ) (rest : List ℕ) → number < 100 → after_first is_colon (two_digits number ++ 58 ∷ rest) ≡ rest
after_colon number rest below = after-at is_colon (two_digits number) rest 58 ((tens number below).not_colon, ((ones number).not_colon, tt)) refl

pub time_of_text : (sectors : ℕ) → sectors < 450000 → time_of (time_text sectors) ≡ Some sectors
unfolding time_of
time_of_text sectors below =
    let m = sectors / 75 / 60 in
    let s = sectors / 75 % 60 in
    let f = sectors % 75 in
    let m_below = minutes_below sectors below in
    let s_below : s < 100 = omega (arith, seconds_below sectors) in
    let f_below : f < 100 = omega (arith, frames_below sectors) in
    let rest : List ℕ = two_digits s ++ 58 ∷ two_digits f in
    let whole : (m * 60 + s) * 75 + f ≡ sectors = omega arith in
    let minutes : number_under 3 1000 (two_digits m) ≡ Some m = two_under 3 1000 m (omega arith) (omega arith) m_below in
    let seconds : number_under 2 60 (two_digits s) ≡ Some s = two_under 2 60 s (omega arith) (seconds_below sectors) s_below in
    let frames : number_under 2 75 (two_digits f) ≡ Some f = two_under 2 75 f (omega arith) (frames_below sectors) f_below in
    rw (after_colon m rest m_below, after_colon s (two_digits f) s_below, before_colon m rest m_below, before_colon s (two_digits f) s_below, minutes, seconds, frames) (ap Some whole)
