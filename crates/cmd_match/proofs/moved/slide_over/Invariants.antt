use Rattle.std.proofs.Common.{◌≡◌, ◌+◌, ◌-◌, ◌*◌, ◌≤◌, ℕ, List, take, vec_len}
use Rattle.std.specs.Prelude.{IfSome}
use Rattle.rip_outside.specs.Reading.{OnlyReads}
use Rattle.disc_toc.specs.Toc.{toc_of}
use Rattle.accurip_match.specs.Slider.{SliderStandsFor}
use Rattle.image_mender.specs.Joined.{joined_words}
use Rattle.cmd_match.proofs.moved.slide_over.Given as goal

abbrev pub invariant-pieces : goal.invariant-pieces
invariant-pieces g l = record {
  within : l.at ≤ l.all;
  scratch : vec_len l.scratch ≡ 131072;
  words : vec_len l.words ≡ 65536;
  toc : l.slider.toc ≡ toc_of l.layout;
  position : 2 * l.slider.position ≡ l.at;
  only : OnlyReads g.S.Shelf l.fn.shelf l.shelf;
  taken : g.S.Shelf.taken l.shelf ≤ g.S.Shelf.taken l.fn.shelf + 2 * l.at;
  stands : (y : List ℕ) × SliderStandsFor l.slider y × IfSome (g.S.Shelf.held l.fn.shelf) (λ files. y ≡ take l.at (joined_words l.image files));
}

abbrev pub decreases-pieces : goal.decreases-pieces
decreases-pieces g l = l.all - l.at
