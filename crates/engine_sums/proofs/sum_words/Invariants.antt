use Rattle.std.proofs.Common.{◌≡◌, ◌+◌, ◌-◌, ◌*◌, ◌≤◌, ◌++◌, ℕ, List, length, take, drop}
use Rattle.std.specs.Prelude.{IfSome}
use Rattle.rip_outside.specs.Reading.{OnlyReads}
use Rattle.accurip_sums.specs.StandsFor.{TrackStandsFor}
use Rattle.image_mender.specs.Joined.{joined_words}
use Rattle.engine_sums.proofs.sum_words.Given as goal

abbrev pub invariant-pieces : goal.invariant-pieces
invariant-pieces g l = record {
  above : l.from ≤ l.at;
  within : l.at ≤ l.end;
  scratch : length l.scratch ≡ 131072;
  words : length l.words ≡ 65536;
  first : l.sum.first ≡ l.fn.sum.first;
  last : l.sum.last ≡ l.fn.sum.last;
  samples : l.sum.samples ≡ l.fn.sum.samples;
  position : 2 * l.sum.position ≡ 2 * l.fn.sum.position + (l.at - l.from);
  only : OnlyReads g.S.Shelf l.fn.shelf l.shelf;
  taken : g.S.Shelf.taken l.shelf ≤ g.S.Shelf.taken l.fn.shelf + 2 * (l.at - l.from);
  stands : (z : List ℕ) × ((y : List ℕ) → TrackStandsFor l.fn.sum y → TrackStandsFor l.sum (y ++ z)) × IfSome (g.S.Shelf.held l.fn.shelf) (λ files. z ≡ take (l.at - l.from) (drop l.from (joined_words l.image files)));
}

abbrev pub decreases-pieces : goal.decreases-pieces
decreases-pieces g l = l.end - l.at
