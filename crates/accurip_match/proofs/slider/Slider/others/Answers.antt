use Rattle.std.proofs.Common.{◌≡◌, ◌++◌, ◌∷◌, [], Vec, Global, arith, ap, sym, ◌∙◌}
use Rattle.std.specs.Prelude.{ℤ, filter, take}
use Rattle.std.proofs.lemmas.Int.{ints, to_z-of_z}
use Rattle.accurip_match.specs.Picking.{is_other, other_offsets}
use Rattle.accurip_match.specs.Offsets.{offset_at, offsets_before}
use Rattle.accurip_match.proofs.PickingLaws.{first_full, first_no, first_none, first_yes}
use Rattle.accurip_match.proofs.slider.Slider.others.Goals as goal
use Rattle.accurip_match.proofs.slider.Slider.others.Goals.{then-len-lt-MOST_OTHERS+then-is_other+in_ok-push, else-len-lt-MOST_OTHERS, else-len-lt-MOST_OTHERS-via-then-len-lt-MOST_OTHERS+else-is_other, else-len-lt-MOST_OTHERS-via-else-len-lt-MOST_OTHERS}

pub loop-place-init : goal.loop-place-init
loop-place-init c = λ y now. c.new-others.ensures.items ∙ first_none (is_other c.args.self.now.toc c.args.blocks.now y)

pub loop-place-preserved : goal.loop-place-preserved
loop-place-preserved c = λ y now.
    let test = is_other c.args.self.now.toc c.args.blocks.now y in
    let had = c.loop-place.invariant y now in
    elim c.if-len-lt-MOST_OTHERS.branch [
      | then-len-lt-MOST_OTHERS+then-is_other+in_ok-push w ↦
          let pushed : w.push.new.self.items ≡ c.loop-place.others.items ++ offset_at c.loop-place.place ∷ [] = grind (arith, ints, to_z-of_z, w.in_ok-push.ensures.items, w.offset_of.ensures) in
          ap (λ (list : Vec ℤ Global). list.items) w.others-is ∙ pushed
          ∙ first_yes test c.loop-place.place c.loop-place.others.items had (omega (arith, w.if-len-lt-MOST_OTHERS.true, c.len.ensures, c.loop-place.others.ok.0)) (sym (w.is_other.ensures y now) ∙ w.if-is_other.true)
      | else-len-lt-MOST_OTHERS w ↦
          elim w.else-len-lt-MOST_OTHERS.branch [
            | else-len-lt-MOST_OTHERS-via-then-len-lt-MOST_OTHERS+else-is_other w' ↦
                ap (λ (list : Vec ℤ Global). list.items) w.others-is ∙ first_no test c.loop-place.place c.loop-place.others.items had (sym (w'.is_other.ensures y now) ∙ w'.if-is_other.false)
            | else-len-lt-MOST_OTHERS-via-else-len-lt-MOST_OTHERS w' ↦
                ap (λ (list : Vec ℤ Global). list.items) w.others-is ∙ first_full test c.loop-place.place c.loop-place.others.items had (omega (arith, w'.if-len-lt-MOST_OTHERS.false, c.len.ensures, c.loop-place.others.ok.0))
          ]
    ]

pub returns : goal.returns
unfolding other_offsets
returns c = λ y now.
    let all : c.loop-place.place ≡ 5879 = omega arith in
    c.loop-place.invariant y now ∙ ap (λ n. take 8 (filter (is_other c.args.self.now.toc c.args.blocks.now y) (offsets_before n))) all
