use Rattle.std.proofs.Common.{◌≡◌, ◌∙◌, ap, string_bytes}
use Rattle.std.specs.Prelude.{codes}
use Rattle.std.specs.Fmt.{digits_output, styled_digits_output}
use Rattle.std.proofs.lemmas.Result.{IfOk-weaker}
use Rattle.accurip_match.proofs.NameLaws.{hex_shown}
use Rattle.rip_report.specs.Matches.{sum_text}
use Rattle.rip_report.proofs.SumLaws.{one_shown}
use Rattle.rip_report.proofs.matches.sum_text.Goals as goal

pub returns : goal.returns
returns c =
    let one = ap (λ s. styled_digits_output c.in_radix.result s) c.laid_out.ensures ∙ hex_shown (digits_output c.in_radix.result) c.args.sum c.in_radix.ensures in
    IfOk-weaker c.format.result _ (λ made. string_bytes made ≡ sum_text c.args.v2 c.args.sum)
    (λ made so. one_shown (string_bytes made) (codes " ") c.sum_name-name.result.now (codes " ") (codes "\n") _ _ _ c.sum_name-name.ensures one so) c.format.ensures.ok
