-- Numerals with zeros before them, and a text of parts.
use Rattle.std.proofs.Common.{◌≡◌, ℕ, ◌-◌, ◌^◌, false, List, [], ◌++◌, ap, ◌∙◌, append_assoc, append-nil, Option, Some, IfSome}
use Rattle.std.specs.Fmt.{◌++?◌, char_count, digits, format_spec, padded_integral}
use Rattle.std.specs.Option.{option_map}
use Rattle.std.proofs.Math.Nat.{sub-zero}
use Rattle.accurip_match.specs.Name.{eight_hex, with_zeros}

-- what `{:03}` and its kin write
pub zeros_before : (count : ℕ) (numeral : List ℕ) → padded_integral (format_spec 32 0 4 count (2 ^ 64 - 1)) false [] numeral ≡ with_zeros count numeral
unfolding padded_integral char_count with_zeros
zeros_before count numeral = simp (sub-zero, append-nil)

-- what `{:08x}` writes
pub hex_shown : (shown : Option (List ℕ)) (n : ℕ) → shown ≡ Some (digits 16 false n)
    → option_map (padded_integral (format_spec 32 0 4 8 (2 ^ 64 - 1)) false []) shown ≡ Some (eight_hex n)
hex_shown shown n is = ap (option_map (padded_integral (format_spec 32 0 4 8 (2 ^ 64 - 1)) false [])) is ∙ ap Some (zeros_before 8 (digits 16 false n))

-- a text of parts that are known
pub three_shown : (made a b c d e f w x y z : List ℕ) (p q r : Option (List ℕ)) → b ≡ w → p ≡ Some x → q ≡ Some y → r ≡ Some z
    → IfSome (Some a ++? Some b ++? Some c ++? p ++? Some d ++? q ++? Some e ++? r ++? Some f) (λ text. made ≡ text)
    → made ≡ a ++ w ++ c ++ x ++ d ++ y ++ e ++ z ++ f
three_shown made a b c d e f w x y z p q r number one two three is = (rw (number, one, two, three) at is) ∙ simp append_assoc
