-- The name of the response of a disc.
use Rattle.std.specs.Prelude.{ℕ, ◌-◌, ◌==◌, false, if◌then◌else◌, List, ◌++◌, codes, length, replicate, slice_index}
use Rattle.std.specs.Fmt.{decimal, digits}
use Rattle.disc_toc.specs.Toc.{Toc}
use Rattle.disc_ids.specs.Numbers.{accurip_id_one, accurip_id_two, freedb_number}

-- a numeral with the digit 0 before it, up to so many digits
unfoldable pub with_zeros : ℕ → List ℕ → List ℕ
with_zeros count numeral = replicate (count - length numeral) 48 ++ numeral

-- a number in eight hexadecimal digits, with lower-case letters
abbrev pub eight_hex : ℕ → List ℕ
eight_hex n = with_zeros 8 (digits 16 false n)

-- a disc's tracks in three digits, its two ids at AccurateRip and that at FreeDB
unfoldable pub response_file : Toc → List ℕ
response_file toc =
    codes "dBAR-" ++ with_zeros 3 (decimal (length toc.starts))
    ++ codes "-" ++ eight_hex (accurip_id_one toc)
    ++ codes "-" ++ eight_hex (accurip_id_two toc)
    ++ codes "-" ++ eight_hex (freedb_number toc)
    ++ codes ".bin"

-- what is asked for, or where that is a folder, which ends in a slash, the disc's file in it
abbrev pub response_name : List ℕ → Toc → List ℕ
response_name asked toc = if slice_index asked (length asked - 1) == 47 then asked ++ response_file toc else asked
