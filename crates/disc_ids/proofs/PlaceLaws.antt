-- Laws of the places of tracks.
use Rattle.std.proofs.Common.{◌≡◌, ℕ, zero, suc, ◌+◌, ◌-◌, ◌<◌, ◌≤◌, List, length, get_or, ap, arith}
use Rattle.std.specs.List.Sorted.{IsStrictlyIncreasing}
use Rattle.disc_toc.specs.Layout.{IsLayout}

-- an element of a rising list is no more than a later one
pub rising_below : (xs : List ℕ) → IsStrictlyIncreasing xs → (k j : ℕ) → k + j < length xs → get_or xs k 0 ≤ get_or xs (k + j) 0
rising_below xs rising k zero inside = let here : k ≡ k + 0 = omega arith in omega (arith, ap (λ i. get_or xs i 0) here)
rising_below xs rising k (suc j) inside =
    let next : k + j + 1 ≡ k + suc j = omega arith in
    let before : get_or xs k 0 ≤ get_or xs (k + j) 0 = rising_below xs rising k j (omega arith) in
    let step : get_or xs (k + j) 0 < get_or xs (k + j + 1) 0 = rising (k + j) (omega arith) in
    omega (arith, ap (λ i. get_or xs i 0) next)

-- each track of a disc begins after the first, or is the first, and before the end
pub start_below : (pregap : ℕ) (starts : List ℕ) (sectors : ℕ) → IsLayout pregap starts sectors → (k : ℕ) → k < length starts → get_or starts k 0 < sectors
start_below pregap starts sectors valid k inside =
    let last : k + (length starts - 1 - k) ≡ length starts - 1 = omega arith in
    let below : get_or starts k 0 ≤ get_or starts (k + (length starts - 1 - k)) 0 = rising_below starts valid.rising k (length starts - 1 - k) (omega arith) in
    omega (arith, valid.inside, ap (λ i. get_or starts i 0) last)

pub first_below : (pregap : ℕ) (starts : List ℕ) (sectors : ℕ) → IsLayout pregap starts sectors → (k : ℕ) → k < length starts → get_or starts 0 0 ≤ get_or starts k 0
first_below pregap starts sectors valid k inside =
    let here : 0 + k ≡ k = omega arith in
    let below : get_or starts 0 0 ≤ get_or starts (0 + k) 0 = rising_below starts valid.rising 0 k (omega arith) in
    omega (arith, ap (λ i. get_or starts i 0) here)
