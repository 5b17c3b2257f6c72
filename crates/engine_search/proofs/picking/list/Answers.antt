use Rattle.std.proofs.Common.{◌*◌, List, ℕ, None, arith, subst}
use Rattle.std.specs.Prelude.{IfOk, IfSome}
use Rattle.std.proofs.lemmas.Result.{IfOk-weaker}
use Rattle.rip_outside.proofs.FilesLaws.{if_told_weaker}
use Rattle.rip_outside.specs.Files.{Files}
use Rattle.rip_outside.proofs.ReadingLaws.{reads_twice}
use Rattle.image_mender.specs.Joined.{joined_words, word_count}
use Rattle.engine_steps.specs.Steps.{Known, known_from}
use Rattle.engine_steps.proofs.TakingLaws.{found_at}
use Rattle.engine_search.specs.Agreement.{AreAgreeing, AreFirstAgreeing, TakesSealing}
use Rattle.engine_search.proofs.AgreementLaws.{all_from_few}
use Rattle.engine_search.proofs.SealingLaws.{first_read}
use Rattle.engine_search.proofs.picking.list.Goals as goal

pub returns-clause-only : goal.returns-clause-only
returns-clause-only g c = reads_twice _ _ _ _ c.in_ok-search.ensures.only c.agreeing.ensures.only

pub returns-clause-taken : goal.returns-clause-taken
returns-clause-taken g c =
    let known : List (List ℕ) → Files → Known = λ wanted files. known_from c.args.shape (joined_words c.args.image.now files) g.row.P wanted c.args.seal in
    let each : ℕ = 2 * word_count c.args.image.now in
    let Of : List (List ℕ) → Type 0 = λ wanted. IfSome (g.S.Shelf.held c.search_rip.new.shelf) (λ files. TakesSealing None (known wanted files) 0 each c.agreeing.result (g.S.Shelf.taken c.search_rip.new.shelf) (g.S.Shelf.taken c.agreeing.new.shelf)) in
    first_read (g.S.Shelf.held c.args.shelf.now) _ None (known c.args.wanted) each _ _ _ c.agreeing.result c.in_ok-search.ensures.only.same
    (found_at each _ _ c.search_rip.result c.in_ok-search.search c.in_ok-search.was c.search_rip.ensures.taken)
    (subst Of c.in_ok-search.ensures.wanted c.agreeing.ensures.taken)

pub returns-clause-found : goal.returns-clause-found
returns-clause-found g c =
    let known : List (List ℕ) → Files → Known = λ wanted files. known_from c.args.shape (joined_words c.args.image.now files) g.row.P wanted c.args.seal in
    let Of : List (List ℕ) → Type 0 = λ wanted. IfSome (g.S.Shelf.held c.search_rip.new.shelf) (λ files. IfOk c.agreeing.result (λ found. AreFirstAgreeing _ (known wanted files) found.items)) in
    if_told_weaker (g.S.Shelf.held c.args.shelf.now) (λ files. IfOk c.agreeing.result (λ found. AreFirstAgreeing _ (known c.args.wanted files) found.items)) _
    (λ files found. IfOk-weaker c.agreeing.result (λ found. AreFirstAgreeing _ (known c.args.wanted files) found.items) (λ found. AreAgreeing (known c.args.wanted files) found.items)
    (λ found are. all_from_few (known c.args.wanted files) _ found.items (omega (arith, found.ok, found.small)) are) found)
    (rw c.in_ok-search.ensures.only.same at (subst Of c.in_ok-search.ensures.wanted c.agreeing.ensures.found))
