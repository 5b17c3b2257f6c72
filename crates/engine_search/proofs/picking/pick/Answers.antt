use Rattle.std.proofs.Common.{◌*◌, List, ℕ, subst}
use Rattle.std.specs.Prelude.{IfSome}
use Rattle.rip_outside.specs.Files.{Files}
use Rattle.rip_outside.proofs.ReadingLaws.{reads_twice}
use Rattle.image_mender.specs.Joined.{joined_words, word_count}
use Rattle.engine_steps.specs.Steps.{Known, known_from}
use Rattle.engine_steps.proofs.TakingLaws.{found_at}
use Rattle.engine_search.specs.Agreement.{TakesSealing}
use Rattle.engine_search.proofs.SealingLaws.{first_read}
use Rattle.engine_search.proofs.picking.pick.Goals as goal

pub returns-clause-only : goal.returns-clause-only
returns-clause-only g c = reads_twice _ _ _ _ c.in_ok-search.ensures.only c.pick_in.ensures.only

pub returns-clause-taken : goal.returns-clause-taken
returns-clause-taken g c =
    let known : List (List ℕ) → Files → Known = λ wanted files. known_from c.args.shape (joined_words c.args.image.now files) g.row.P wanted c.args.seal in
    let each : ℕ = 2 * word_count c.args.image.now in
    let Of : List (List ℕ) → Type 0 = λ wanted. IfSome (g.S.Shelf.held c.search_rip.new.shelf) (λ files. TakesSealing c.args.offset (known wanted files) 0 each c.pick_in.result (g.S.Shelf.taken c.search_rip.new.shelf) (g.S.Shelf.taken c.pick_in.new.shelf)) in
    first_read (g.S.Shelf.held c.args.shelf.now) _ c.args.offset (known c.args.wanted) each _ _ _ c.pick_in.result c.in_ok-search.ensures.only.same
    (found_at each _ _ c.search_rip.result c.in_ok-search.search c.in_ok-search.was c.search_rip.ensures.taken)
    (subst Of c.in_ok-search.ensures.wanted c.pick_in.ensures.taken)
