use Rattle.accurip_match.proofs.SliderLaws.{slider_none}
use Rattle.accurip_match.proofs.slider.Slider.new.Goals as goal

pub returns-clause-stands : goal.returns-clause-stands
returns-clause-stands c =
    slider_none _ _ _ c.in_ok-values.values.items c.in_ok-products.products.items
    (c.in_ok-values.ensures.items_if_clones_equal (λ y same. same)) (c.in_ok-products.ensures.items_if_clones_equal (λ y same. same))
