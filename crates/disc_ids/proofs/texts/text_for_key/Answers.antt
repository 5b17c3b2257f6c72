use Rattle.std.proofs.Common.{◌*◌, ◌-◌, ◌++◌, List, ℕ, length, get_or, replicate, ap, ap₂, ◌∙◌, arith}
use Rattle.disc_ids.specs.Texts.{hex_digits, later_starts, store_key_text}
use Rattle.disc_ids.proofs.PlaceLaws.{start_below}
use Rattle.disc_ids.proofs.texts.text_for_key.Goals as goal

pub overflow_sub-layout : goal.overflow_sub-layout
overflow_sub-layout c =
    let layout = c.args.layout.now in
    let low = start_below layout.pregap layout.starts layout.sectors layout.valid 0 layout.valid.some in
    omega (arith, low, ap (λ (starts : List ℕ). get_or starts 0 0) c.as_slice-starts.ensures)

pub returns : goal.returns
unfolding store_key_text
returns c =
    c.in_ok-add_zeros.ensures
    ∙ ap₂ (λ text (starts : List ℕ). text ++ replicate (800 - 8 * length starts) 48)
    (c.in_ok-add_hex.ensures
    ∙ ap₂ (λ text (starts : List ℕ). text ++ hex_digits 8 (c.args.layout.now.sectors - get_or starts 0 0))
    (c.in_ok-add_later_starts.ensures ∙ ap (λ text. text ++ later_starts c.args.layout.now.starts (length c.args.layout.now.starts - 1)) c.new-text.ensures.items)
    c.as_slice-starts.ensures)
    c.as_slice-starts.ensures
