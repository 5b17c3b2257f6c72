use Rattle.std.proofs.Common.{ℕ, ◌+◌, ◌*◌, ◌++◌, List, take}
use Rattle.accurip_match.specs.Slider.{PrefixStandsFor}
use Rattle.accurip_match.proofs.prefix.Prefix.with_words.Given as goal

abbrev pub invariant-loop-i : goal.invariant-loop-i
invariant-loop-i l = (y : List ℕ) → PrefixStandsFor l.fn.self l.before y → PrefixStandsFor l.prefix (l.before + l.i) (y ++ take (2 * l.i) l.words)
