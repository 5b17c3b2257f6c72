use Rattle.std.proofs.Common.{◌≡◌, ◌∙◌, ℕ, ◌+◌, ◌++◌, List, Some, sym, subst, arith, length, min, take, drop, rules}
use Rattle.std.specs.Prelude.{slice_range}
use Rattle.std.specs.FinMap.{get}
use Rattle.std.proofs.lemmas.List.{length-take-le}
use Rattle.rip_outside.specs.Files.{bytes_at}
use Rattle.rip_outside.proofs.FilesLaws.{if_told, when_told}
use Rattle.parity_store.specs.Reading.{most_bytes}
use Rattle.parity_store.proofs.FindingLaws.{front_of}
use Rattle.store_upkeep.specs.Looking.{IsReadInto}
use Rattle.store_upkeep.proofs.LookLaws.{read_into}
use Rattle.store_upkeep.proofs.looking.read_first.Goals as goal

pub returns-in-Ok-clause-answer : goal.returns-in-Ok-clause-answer
returns-in-Ok-clause-answer g c =
    let rest : List ℕ = drop c.min-count.result c.args.buf.now in
    if_told (g.S.Shelf.held c.args.shelf.now) (λ files. IsReadInto (c.read_at.new.buf ++ rest) (get files c.args.name.now) (Some c.in-Ok-Some.size)) (λ files told.
    let file = get files c.args.name.now in
    let counted : c.min-count.result ≡ min c.in-Ok-Some.size most_bytes = c.min-count.ensures in
    let filled : length c.read_at.new.buf ≡ c.min-count.result = search rules in
    let room : length (take c.min-count.result c.args.buf.now) ≡ c.min-count.result = length-take-le c.min-count.result c.args.buf.now (omega (arith, counted, c.requires.room)) in
    let here = when_told (g.S.Shelf.held c.size.new.self) _ c.in-Ok.ensures.bytes files (c.in-Ok-Some.ensures.same ∙ told) in
    let sized = sym c.in-Ok-Some.field-0-is ∙ when_told (g.S.Shelf.held c.args.shelf.now) _ c.in-Ok-Some.ensures.value files told in
    read_into c.read_at.new.buf rest c.in-Ok-Some.size c.min-count.result file counted filled
    (front_of file c.in-Ok-Some.size c.min-count.result c.read_at.new.buf sized counted
    (subst (λ (n : ℕ). c.read_at.new.buf ≡ slice_range (bytes_at c.args.name.now files) 0 (0 + n)) room here)))
