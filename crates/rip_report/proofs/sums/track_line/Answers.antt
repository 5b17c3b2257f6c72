use Rattle.std.proofs.Common.{◌≡◌, ◌∙◌, ap, string_bytes}
use Rattle.std.specs.Prelude.{codes}
use Rattle.std.specs.Fmt.{decimal, digits_output, styled_decimal, styled_digits_output}
use Rattle.std.proofs.lemmas.Result.{IfOk-weaker}
use Rattle.accurip_match.specs.Name.{with_zeros}
use Rattle.rip_report.specs.Sums.{track_line}
use Rattle.accurip_match.proofs.NameLaws.{hex_shown, zeros_before}
use Rattle.rip_report.proofs.SumLaws.{two_shown}
use Rattle.rip_report.proofs.sums.track_line.Goals as goal

pub returns : goal.returns
unfolding track_line
returns c =
    let number : styled_decimal c.laid_out.result c.args.number ≡ with_zeros 2 (decimal c.args.number) = ap (λ s. styled_decimal s c.args.number) c.laid_out.ensures ∙ zeros_before 2 (decimal c.args.number) in
    let one = ap (λ s. styled_digits_output c.in_radix.result s) c.laid_out-2.ensures ∙ hex_shown (digits_output c.in_radix.result) c.args.sums.v1 c.in_radix.ensures in
    let two = ap (λ s. styled_digits_output c.in_radix-2.result s) c.laid_out-3.ensures ∙ hex_shown (digits_output c.in_radix-2.result) c.args.sums.v2 c.in_radix-2.ensures in
    IfOk-weaker c.format.result _ (λ made. string_bytes made ≡ track_line c.args.number c.args.sums)
    (λ made so. two_shown (string_bytes made) (codes "track ") (styled_decimal c.laid_out.result c.args.number) (codes " v1 ") (codes " v2 ") (codes "\n") _ _ _ _ _ number one two so) c.format.ensures.ok
