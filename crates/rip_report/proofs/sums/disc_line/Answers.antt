use Rattle.std.proofs.Common.{◌≡◌, ◌∙◌, ap, length, string_bytes, Some}
use Rattle.std.specs.Prelude.{codes}
use Rattle.std.specs.Fmt.{decimal, digits_output, styled_decimal, styled_digits_output}
use Rattle.std.proofs.lemmas.Result.{IfOk-weaker}
use Rattle.disc_toc.specs.Toc.{toc_of}
use Rattle.accurip_match.specs.Name.{eight_hex, with_zeros}
use Rattle.rip_report.specs.Sums.{disc_line}
use Rattle.accurip_match.proofs.NameLaws.{hex_shown, zeros_before, three_shown}
use Rattle.rip_report.proofs.sums.disc_line.Goals as goal

pub returns : goal.returns
unfolding disc_line
returns c =
    let tracks : styled_decimal c.laid_out.result (length c.as_slice.result.now) ≡ with_zeros 3 (decimal (length c.args.layout.now.starts)) = ap (λ s. styled_decimal s (length c.as_slice.result.now)) c.laid_out.ensures ∙ zeros_before 3 (decimal (length c.as_slice.result.now)) ∙ ap (λ l. with_zeros 3 (decimal (length l))) c.as_slice.ensures in
    let one = ap (λ s. styled_digits_output c.in_radix.result s) c.laid_out-2.ensures ∙ hex_shown (digits_output c.in_radix.result) c.accurip_ids-one.result.0 c.in_radix.ensures ∙ ap (λ n. Some (eight_hex n)) c.accurip_ids-one.ensures.one in
    let two = ap (λ s. styled_digits_output c.in_radix-2.result s) c.laid_out-3.ensures ∙ hex_shown (digits_output c.in_radix-2.result) c.accurip_ids-one.result.1 c.in_radix-2.ensures ∙ ap (λ n. Some (eight_hex n)) c.accurip_ids-one.ensures.two in
    let freedb = ap (λ s. styled_digits_output c.in_radix-3.result s) c.laid_out-4.ensures ∙ hex_shown (digits_output c.in_radix-3.result) c.freedb_id-freedb.result c.in_radix-3.ensures ∙ ap (λ n. Some (eight_hex n)) c.freedb_id-freedb.ensures in
    IfOk-weaker c.format.result _ (λ made. string_bytes made ≡ disc_line (toc_of c.args.layout.now))
    (λ made so. three_shown (string_bytes made) (codes "disc ") (styled_decimal c.laid_out.result (length c.as_slice.result.now)) (codes "-") (codes "-") (codes "-") (codes "\n") _ _ _ _ _ _ _ tracks one two freedb so) c.format.ensures.ok
