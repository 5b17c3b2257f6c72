use Rattle.std.proofs.Common.{arith, ◌≤◌, ℕ, List, length, subst, FitsSigned, w32, negsuc, pos, ◌≤ℤ◌}
use Rattle.std.proofs.lemmas.Int.{ints, to_z-of_z}
use Rattle.std.specs.Str.Parse.{without_leading_sign}
use Rattle.rip_words.proofs.offset_of.Goals as goal
use Rattle.rip_words.proofs.Numbers.{offset_that_was_read, offset_that_was_refused}

pub returns-in-Ok-clause-value : goal.returns-in-Ok-clause-value
returns-in-Ok-clause-value c =
    let read = c.in-Ok.ensures.value.0 in
    let fits : FitsSigned w32 c.in-Ok.offset = rw read.1 read.0.1 in
    let short : length (without_leading_sign c.args.number.now) ≤ 4 = subst (λ (bytes : List ℕ). length (without_leading_sign bytes) ≤ 4) c.as_bytes.ensures.value (subst (λ (digits : List ℕ). length digits ≤ 4) c.without_sign.ensures c.if-without_sign-gt-MOST_DIGITS.false) in
    let least : negsuc 5878 ≤ℤ c.in-Ok.offset = grind (arith, ints, to_z-of_z) in
    let most : c.in-Ok.offset ≤ℤ pos 5879 = grind (arith, ints, to_z-of_z) in
    rw to_z-of_z (offset_that_was_read c.args.number.now c.in-Ok.offset read.0.0 read.1 short least most)

pub returns-in_default-3-clause-value : goal.returns-in_default-3-clause-value
returns-in_default-3-clause-value c = offset_that_was_refused c.args.number.now c.in_default.ensures.value.0
