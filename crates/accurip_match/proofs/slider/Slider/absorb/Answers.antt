use Rattle.std.proofs.Common.{◌+◌, ◌*◌, ◌++◌, ℕ, List, take, arith, subst, ap, ◌∙◌, append_assoc}
use Rattle.accurip_match.specs.Slider.{IsCalm, KeptSlider, SliderStandsFor}
use Rattle.accurip_match.proofs.SliderLaws.{length-piece, take-piece}
use Rattle.accurip_match.proofs.slider.Slider.absorb.Goals as goal

pub absorb_calm-requires-clause-calm : goal.absorb_calm-requires-clause-calm
absorb_calm-requires-clause-calm c =
    let calm = subst (λ (kept : KeptSlider). IsCalm kept.toc (kept.position + 2939) (kept.position + 2939 + c.calm_after-calm.result + 1)) c.self.view_is c.calm_after-calm.ensures.calm in
    λ j k within inside past near. calm j k within inside past (omega (arith, length-piece c.args.words.now c.samples.at c.calm_after-calm.result (omega arith)))

pub samples-preserved : goal.samples-preserved
samples-preserved c =
    let words = c.args.words.now in
    let long = length-piece words c.samples.at c.calm_after-calm.result (omega arith) in
    record {
      toc = c.absorb_calm.ensures.toc ∙ c.samples.invariant.toc;
      position = omega (arith, long, c.absorb_calm.ensures.position, c.samples.invariant.position);
      inside = omega arith;
      stands = λ y now. subst (λ (w : List ℕ). SliderStandsFor c.absorb_calm.new.self w)
          (append_assoc y (take (2 * c.samples.at) words) _ ∙ ap (λ w. y ++ w) (take-piece words c.samples.at c.calm_after-calm.result))
          (c.absorb_calm.ensures.stands _ (c.samples.invariant.stands y now));
    }
