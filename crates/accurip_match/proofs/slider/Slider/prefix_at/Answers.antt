use Rattle.std.proofs.Common.{◌+◌, arith, ap, ◌∙◌}
use Rattle.accurip_match.specs.Slider.{KeptSlider, edge_of}
use Rattle.accurip_match.proofs.SliderLaws.{slider_past}
use Rattle.accurip_match.proofs.slider.Slider.prefix_at.Goals as goal

pub returns-else-edge-place : goal.returns-else-edge-place
returns-else-edge-place c = λ y now.
    ap (λ (kept : KeptSlider). kept.prefix) c.self.view_is
    ∙ slider_past c.args.self.now y (edge_of c.args.self.now.toc c.args.j + c.args.place) now
    (omega (arith, c.if-edge-place.false, c.edge_at-edge.ensures.edge, ap (λ (kept : KeptSlider). kept.position) c.self.view_is, ap (λ (kept : KeptSlider). edge_of kept.toc c.args.j) c.self.view_is))
