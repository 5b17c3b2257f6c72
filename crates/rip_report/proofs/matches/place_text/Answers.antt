use Rattle.std.proofs.Common.{◌≡◌, ◌∙◌, ◌++◌, ap, ap₂, sym, append_assoc, string_bytes, w32}
use Rattle.std.specs.Prelude.{codes}
use Rattle.std.specs.Fmt.{decimal, styled_decimal}
use Rattle.std.proofs.lemmas.Int.{to_z-of_z}
use Rattle.std.proofs.lemmas.Result.{IfOk-weaker}
use Rattle.accurip_match.specs.Name.{with_zeros}
use Rattle.accurip_match.proofs.NameLaws.{zeros_before}
use Rattle.rip_report.specs.Matches.{place_text}
use Rattle.rip_report.specs.Texts.{offset_text}
use Rattle.rip_report.proofs.matches.place_text.Goals as goal

pub returns : goal.returns
returns c =
    let number : styled_decimal c.laid_out.result c.args.track ≡ with_zeros 2 (decimal c.args.track) = ap (λ s. styled_decimal s c.args.track) c.laid_out.ensures ∙ zeros_before 2 (decimal c.args.track) in
    let sized : c.sign_of-sign.result.now ++ decimal c.size_of-size.result ≡ offset_text c.args.offset = ap (λ n. c.sign_of-sign.result.now ++ decimal n) c.size_of-size.ensures ∙ c.sign_of-sign.ensures ∙ ap offset_text (to_z-of_z w32 c.args.offset c.ranges.offset) in
    IfOk-weaker c.format.result _ (λ made. string_bytes made ≡ place_text c.args.track c.args.offset)
    (λ made so. so ∙ ap (λ text. codes "match track " ++ text) (ap₂ (λ track offset. track ++ (codes " offset " ++ offset)) number sized ∙ sym (append_assoc (with_zeros 2 (decimal c.args.track)) (codes " offset ") (offset_text c.args.offset))))
    c.format.ensures.ok
