use Rattle.std.proofs.Common.{◌++◌, ap, ap₂, sym, ◌∙◌}
use Rattle.std.proofs.lemmas.List.{append-nil}
use Rattle.disc_toc.specs.Toc.{toc_of}
use Rattle.disc_ids.specs.Texts.{hex_digits}
use Rattle.disc_ids.proofs.TextLaws.{track_fields-more, track_fields-none}
use Rattle.disc_ids.proofs.texts.add_fields.Goals as goal

pub loop-i-init : goal.loop-i-init
loop-i-init c = sym (ap (λ fields. c.args.text.now.items ++ fields) (track_fields-none (toc_of c.args.layout.now)) ∙ append-nil c.args.text.now.items)

pub loop-i-preserved : goal.loop-i-preserved
loop-i-preserved c =
    c.in_ok-add_hex.ensures ∙ ap₂ (λ text field. text ++ hex_digits 8 field) c.loop-i.invariant c.field_of.ensures
    ∙ track_fields-more (toc_of c.args.layout.now) c.args.text.now.items c.loop-i.i
