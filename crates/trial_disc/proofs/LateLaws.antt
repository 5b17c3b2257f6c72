-- What a late rip keeps of a disc's words.
use Rattle.std.proofs.Common.{◌≡◌, ◌∙◌, ap, ℕ, ◌+◌, ◌*◌, ◌<◌, ◌≤◌, List, length, ℤ, pos, ◌-ℤ◌, ◌*ℤ◌, arith}
use Rattle.std.proofs.lemmas.Int.{ints}
use Rattle.std.proofs.lemmas.List.FromFn.{get_or-map-range_with_len}
use Rattle.column_map.specs.Columns.{IsOffset, place, stride}
use Rattle.column_map.proofs.MendingLaws.{place_inside}
use Rattle.column_map.proofs.PlaceLaws.{moved-is}
use Rattle.trial_disc.specs.Compared.{SameCovered}
use Rattle.trial_disc.specs.Damaged.{late, late_word, word_at}

-- at the offset by which it is late, a rip has the disc's words where columns have words
pub late_covered : (c : ℕ) (d : ℤ) (disc : List ℕ) → IsOffset d → (c + 2) * stride ≤ length disc → SameCovered c d (late disc d) disc
late_covered c d disc offset long j k column number =
    let i : ℕ = stride + k * stride + j in
    let inside : place d j k < length disc = omega (arith, place_inside c d j k offset column number) in
    let back : pos (place d j k) -ℤ pos 2 *ℤ d ≡ pos i = omega (arith, ints, moved-is d i offset (omega arith)) in
    get_or-map-range_with_len (late_word disc d) 0 (length disc) (place d j k) (place d j k) 0 inside (omega arith) ∙ ap (word_at disc) back
