use Rattle.std.proofs.Common.{◌≤◌, ◌+◌, ◌-◌, ◌++◌, List, ℕ, length, get_or, ap, ap₂, sym, subst, ◌∙◌, arith}
use Rattle.std.proofs.lemmas.List.{append-nil}
use Rattle.disc_ids.specs.Texts.{hex_digits}
use Rattle.disc_ids.proofs.PlaceLaws.{first_below}
use Rattle.disc_ids.proofs.TextLaws.{later_starts-more, later_starts-none}
use Rattle.disc_ids.proofs.texts.add_later_starts.Goals as goal

pub loop-i-init : goal.loop-i-init
loop-i-init c = sym (ap (λ starts. c.args.text.now.items ++ starts) (later_starts-none c.args.layout.now.starts) ∙ append-nil c.args.text.now.items)

pub overflow_sub-starts : goal.overflow_sub-starts
overflow_sub-starts c =
    let layout = c.args.layout.now in
    subst (λ (starts : List ℕ). get_or starts 0 0 ≤ get_or starts (c.loop-i.i + 1) 0) (sym c.as_slice-starts.ensures)
    (first_below layout.pregap layout.starts layout.sectors layout.valid (c.loop-i.i + 1) (omega (arith, ap length c.as_slice-starts.ensures)))

pub loop-i-preserved : goal.loop-i-preserved
loop-i-preserved c =
    c.in_ok-add_hex.ensures
    ∙ ap₂ (λ text starts. text ++ hex_digits 8 (get_or starts (c.loop-i.i + 1) 0 - get_or starts 0 0)) c.loop-i.invariant c.as_slice-starts.ensures
    ∙ later_starts-more c.args.layout.now.starts c.args.text.now.items c.loop-i.i
