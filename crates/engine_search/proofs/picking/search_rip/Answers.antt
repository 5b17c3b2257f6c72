use Rattle.std.proofs.Common.{subst, sym}
use Rattle.offset_slide.specs.Slides.{KeptRows}
use Rattle.engine_search.specs.Picking.{StandFor}
use Rattle.engine_search.proofs.picking.search_rip.Goals as goal

pub returns-clause-stands : goal.returns-clause-stands
returns-clause-stands g c =
    let s = c.in_ok-table.ensures.stands in
    let stands : StandFor g.row.P c.in_ok-slides.slides s.0 = c.in_ok-slides.ensures.stands s.0 s.1 in
    let P : KeptRows → Type 0 = λ slides. StandFor g.row.P slides s.0 in
    (s.0, subst P (sym c.in_ok-new.ensures.starts) stands, s.2)
