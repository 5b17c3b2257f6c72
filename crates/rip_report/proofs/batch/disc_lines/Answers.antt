use Rattle.std.proofs.Common.{◌≡◌, ◌∙◌, append_assoc, string_bytes}
use Rattle.std.proofs.lemmas.Result.{IfOk-weaker}
use Rattle.rip_report.specs.Texts.{disc_part}
use Rattle.rip_report.proofs.batch.disc_lines.Goals as goal

pub returns : goal.returns
returns c = IfOk-weaker c.format.result _ (λ made. string_bytes made ≡ disc_part c.args.disc c.args.number c.args.text.now) (λ made so. so ∙ simp append_assoc) c.format.ensures.ok
