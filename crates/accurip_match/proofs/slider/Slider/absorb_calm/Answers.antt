use Rattle.std.proofs.Common.{◌+◌, ◌/◌, length, arith, subst, sym}
use Rattle.std.proofs.lemmas.List.{with_items_is}
use Rattle.accurip_match.specs.Slider.{IsCalm, KeptSlider, SliderStandsFor}
use Rattle.accurip_match.proofs.SliderLaws.{slider_more}
use Rattle.accurip_match.proofs.slider.Slider.absorb_calm.Goals as goal

pub returns-clause-stands : goal.returns-clause-stands
returns-clause-stands c = λ y now.
    let kept = subst (λ (kept : KeptSlider). SliderStandsFor kept y) (sym c.self.view_is) now in
    slider_more _ c.self.inside.position (length c.args.words.now / 2) c.self.inside.prefix c.with_words-self-inside.result y c.args.words.now
    _ _ _ _ c.deref_mut.result.now c.note.new.notes c.deref_mut-2.result.now c.note-2.new.notes kept
    (subst (λ (kept : KeptSlider). IsCalm kept.toc (kept.position + 2939) (kept.position + 2939 + length c.args.words.now / 2)) (sym c.self.view_is) c.requires.calm)
    (c.with_words-self-inside.ensures y kept.prefix)
    c.deref_mut.ensures.value (sym (with_items_is c.self.inside.values c.note.new.notes (omega (arith, c.deref_mut.ensures.len)))) c.note.ensures
    c.deref_mut-2.ensures.value (sym (with_items_is c.self.inside.products c.note-2.new.notes (omega (arith, c.deref_mut-2.ensures.len)))) c.note-2.ensures
