use Rattle.std.proofs.Common.{◌≡◌, ◌∙◌, append_assoc, string_bytes}
use Rattle.std.proofs.lemmas.Result.{IfOk-weaker}
use Rattle.rip_report.specs.Texts.{batch_line}
use Rattle.rip_report.proofs.batch.batch_lines.Goals as goal

pub returns : goal.returns
returns c = IfOk-weaker c.format.result _ (λ made. string_bytes made ≡ batch_line c.args.discs c.args.failed) (λ made so. so ∙ simp append_assoc) c.format.ensures.ok
