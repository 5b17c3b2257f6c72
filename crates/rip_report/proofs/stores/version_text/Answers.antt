use Rattle.std.proofs.Common.{◌≡◌, ◌∙◌, append_assoc, string_bytes}
use Rattle.std.proofs.lemmas.Result.{IfOk-weaker}
use Rattle.rip_report.specs.Stores.{version_text}
use Rattle.rip_report.proofs.stores.version_text.Goals as goal

pub returns : goal.returns
returns c = IfOk-weaker c.format.result _ (λ made. string_bytes made ≡ version_text c.args.name.now c.args.version c.args.npar) (λ made so. so ∙ simp append_assoc) c.format.ensures.ok
