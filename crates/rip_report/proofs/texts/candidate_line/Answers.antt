use Rattle.std.proofs.Common.{◌≡◌, ◌∙◌, ◌++◌, ap, append_assoc, string_bytes, w32}
use Rattle.std.specs.Fmt.{decimal}
use Rattle.std.proofs.lemmas.Int.{to_z-of_z}
use Rattle.std.proofs.lemmas.Result.{IfOk-weaker}
use Rattle.rip_report.specs.Texts.{candidate_line, offset_text}
use Rattle.rip_report.proofs.texts.candidate_line.Goals as goal

pub returns : goal.returns
returns c =
    let sized : c.sign_of-sign.result.now ++ decimal c.size_of-size.result ≡ offset_text c.args.offset = ap (λ n. c.sign_of-sign.result.now ++ decimal n) c.size_of-size.ensures ∙ c.sign_of-sign.ensures ∙ ap offset_text (to_z-of_z w32 c.args.offset c.ranges.offset) in
    IfOk-weaker c.format.result _ (λ made. string_bytes made ≡ candidate_line c.args.offset c.args.errors c.args.columns)
    (λ made so. so ∙ rw (← sized) (simp append_assoc)) c.format.ensures.ok
