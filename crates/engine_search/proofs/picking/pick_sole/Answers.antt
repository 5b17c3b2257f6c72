use Rattle.rip_outside.specs.Files.{Files}
use Rattle.rip_outside.proofs.FilesLaws.{if_told_weaker}
use Rattle.image_mender.specs.Joined.{joined_words}
use Rattle.engine_steps.specs.Steps.{Known, known_from}
use Rattle.engine_search.specs.Agreement.{AreFirstAgreeing}
use Rattle.engine_search.proofs.PickLaws.{none_found, several_found, sole_found}
use Rattle.engine_search.proofs.picking.pick_sole.Goals as goal

pub returns-in-empty-clause-picks : goal.returns-in-empty-clause-picks
returns-in-empty-clause-picks g c =
    let known : Files → Known = λ files. known_from c.args.shape (joined_words c.args.image.now files) g.row.P c.args.search.now.wanted c.args.seal in
    if_told_weaker (g.S.Shelf.held c.args.shelf.now) (λ files. AreFirstAgreeing 2 (known files) c.as_slice.result.now) _ (λ files are. none_found (known files) c.as_slice.result.now c.in-empty.len_below are)
    (rw (← c.as_slice.ensures.value) at c.in_ok-found.ensures.found)

pub returns-in-len1-clause-picks : goal.returns-in-len1-clause-picks
returns-in-len1-clause-picks g c =
    let known : Files → Known = λ files. known_from c.args.shape (joined_words c.args.image.now files) g.row.P c.args.search.now.wanted c.args.seal in
    if_told_weaker (g.S.Shelf.held c.args.shelf.now) (λ files. AreFirstAgreeing 2 (known files) c.as_slice.result.now) _ (λ files are. sole_found (known files) c.as_slice.result.now _ c.in-len1.len_at_least c.in-len1.len_below are)
    (rw (← c.as_slice.ensures.value) at c.in_ok-found.ensures.found)

pub returns-clause-picks : goal.returns-clause-picks
returns-clause-picks g c =
    let known : Files → Known = λ files. known_from c.args.shape (joined_words c.args.image.now files) g.row.P c.args.search.now.wanted c.args.seal in
    if_told_weaker (g.S.Shelf.held c.args.shelf.now) (λ files. AreFirstAgreeing 2 (known files) c.as_slice.result.now) _ (λ files are. several_found (known files) c.as_slice.result.now _ _ c.in-len2-up.len_at_least are)
    (rw (← c.as_slice.ensures.value) at c.in_ok-found.ensures.found)

pub returns-in-len1-clause-near : goal.returns-in-len1-clause-near
returns-in-len1-clause-near g c = λ y st. (rw (← c.as_slice.ensures.value) at (c.in_ok-found.ensures.near y st)) 0 _ c.in-len1.len_at_least
