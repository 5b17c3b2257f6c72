use Rattle.std.proofs.Common.{[], ◌∷◌, ◌++◌, append_assoc, ap, ap₂, sym, ◌∙◌, arith, ◌≡◌}
use Rattle.disc_ids.proofs.TextLaws.{digits_before, digits_before-all, digits_before-more}
use Rattle.disc_ids.proofs.texts.add_hex.Goals as goal

pub loop-i-preserved : goal.loop-i-preserved
loop-i-preserved c =
    c.in_ok-push.ensures.items ∙ ap₂ (λ text digit. text ++ digit ∷ []) c.loop-i.invariant c.hex.ensures ∙ append_assoc c.args.text.now.items (digits_before c.args.digits c.args.number c.loop-i.i) _
    ∙ ap (λ digits. c.args.text.now.items ++ digits) (sym (digits_before-more c.args.digits c.args.number c.loop-i.i))

pub returns : goal.returns
returns c =
    let all : c.loop-i.i ≡ c.args.digits = omega arith in
    c.loop-i.invariant ∙ ap (λ digits. c.args.text.now.items ++ digits) (ap (digits_before c.args.digits c.args.number) all ∙ digits_before-all c.args.digits c.args.number)
