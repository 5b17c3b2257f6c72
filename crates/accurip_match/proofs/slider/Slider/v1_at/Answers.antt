use Rattle.std.proofs.Common.{◌≡◌, ◌+◌, ◌-◌, ◌*◌, ◌%◌, ◌^◌, ◌<◌, ℕ, length, get_or, arith, ap, subst, sym, ◌∙◌}
use Rattle.disc_ids.proofs.PlaceLaws.{start_below}
use Rattle.accurip_match.specs.declared.prefix.Prefix.{Prefix}
use Rattle.accurip_match.specs.Slider.{KeptSlider, edge_of, product_sum, value_sum}
use Rattle.accurip_match.proofs.TrackLaws.{v1-sum, v1_none, v1_some, whole_sum}
use Rattle.accurip_match.proofs.slider.Slider.v1_at.Goals as goal

pub returns-then-edge_at : goal.returns-then-edge_at
returns-then-edge_at c = λ y now.
    let toc = c.args.self.now.toc in
    let number : c.args.track - 1 + 1 ≡ c.args.track = omega arith in
    v1_none toc y c.args.track c.args.place c.requires.first c.requires.last
    (omega (
      arith,
      c.if-edge_at.true,
      c.edge_at.ensures.edge,
      c.edge_at-2.ensures.edge,
      ap (edge_of toc) number,
      ap (λ (kept : KeptSlider). edge_of kept.toc (c.args.track - 1 + 1)) c.self.view_is,
      ap (λ (kept : KeptSlider). edge_of kept.toc (c.args.track - 1)) c.self.view_is,
    ))

pub overflow_mul-starts : goal.overflow_mul-starts
overflow_mul-starts c =
    let layout = c.self.inside.layout in
    let inside : c.args.track - 1 < length layout.starts = omega (arith, c.requires.first, c.requires.last, ap (λ (kept : KeptSlider). length kept.toc.starts) c.self.view_is) in
    let low : get_or layout.starts (c.args.track - 1) 0 < layout.sectors = start_below layout.pregap layout.starts layout.sectors layout.valid (c.args.track - 1) inside in
    omega (arith, layout.valid.fits, ap (λ starts. get_or starts (c.args.track - 1) 0) c.as_slice-starts.ensures)

pub overflow_add-starts : goal.overflow_add-starts
overflow_add-starts c =
    let layout = c.self.inside.layout in
    let inside : c.args.track - 1 < length layout.starts = omega (arith, c.requires.first, c.requires.last, ap (λ (kept : KeptSlider). length kept.toc.starts) c.self.view_is) in
    let low : get_or layout.starts (c.args.track - 1) 0 < layout.sectors = start_below layout.pregap layout.starts layout.sectors layout.valid (c.args.track - 1) inside in
    omega (arith, layout.valid.fits, ap (λ starts. get_or starts (c.args.track - 1) 0) c.as_slice-starts.ensures)

pub returns : goal.returns
returns c = λ y now.
    let toc = c.args.self.now.toc in
    let track : ℕ = c.args.track in
    let place : ℕ = c.args.place in
    let number : track - 1 + 1 ≡ track = omega arith in
    let starts : c.as_slice-starts.result.now ≡ toc.starts = c.as_slice-starts.ensures ∙ ap (λ (kept : KeptSlider). kept.toc.starts) c.self.view_is in
    let shift : 588 * get_or toc.starts (track - 1) 0 + place ≡ 588 * get_or c.as_slice-starts.result.now (track - 1) 0 + place = ap (λ starts. 588 * get_or starts (track - 1) 0 + place) (sym starts) in
    let low = c.prefix_at-low.ensures y now in
    let high : c.prefix_at-high.result ≡ record { values = value_sum y (edge_of toc track + place) % 2 ^ 32; products = product_sum y (edge_of toc track + place) % 2 ^ 32 } =
    c.prefix_at-high.ensures y now ∙ ap (λ t. let made : Prefix = record { values = value_sum y (edge_of toc t + place) % 2 ^ 32; products = product_sum y (edge_of toc t + place) % 2 ^ 32 } in made) number in
    let counted : edge_of toc (track - 1) < edge_of toc track =
    omega (
      arith,
      c.if-edge_at.false,
      c.edge_at.ensures.edge,
      c.edge_at-2.ensures.edge,
      ap (edge_of toc) number,
      ap (λ (kept : KeptSlider). edge_of kept.toc (c.args.track - 1 + 1)) c.self.view_is,
      ap (λ (kept : KeptSlider). edge_of kept.toc (c.args.track - 1)) c.self.view_is,
    ) in
    let total = v1_some toc y track place c.requires.first c.requires.last counted in
    c.sum_to.ensures (whole_sum toc y track place) (value_sum y (edge_of toc (track - 1) + place)) (product_sum y (edge_of toc (track - 1) + place)) (value_sum y (edge_of toc track + place)) (product_sum y (edge_of toc track + place))
    (ap (λ (prefix : Prefix). prefix.values) low) (ap (λ (prefix : Prefix). prefix.products) low) (ap (λ (prefix : Prefix). prefix.values) high) (ap (λ (prefix : Prefix). prefix.products) high)
    (subst (λ (s : ℕ). whole_sum toc y track place + s * value_sum y (edge_of toc track + place) + product_sum y (edge_of toc (track - 1) + place) ≡ product_sum y (edge_of toc track + place) + s * value_sum y (edge_of toc (track - 1) + place)) shift total)
    ∙ sym (v1-sum toc y track place)
