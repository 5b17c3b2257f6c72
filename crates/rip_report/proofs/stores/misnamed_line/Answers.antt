use Rattle.std.proofs.Common.{◌≡◌, ◌∙◌, append_assoc, string_bytes}
use Rattle.std.proofs.lemmas.Result.{IfOk-weaker}
use Rattle.rip_report.specs.Stores.{misnamed_line}
use Rattle.rip_report.proofs.stores.misnamed_line.Goals as goal

pub returns : goal.returns
returns c = IfOk-weaker c.format.result _ (λ made. string_bytes made ≡ misnamed_line c.args.name.now c.args.key.now) (λ made so. so ∙ simp append_assoc) c.format.ensures.ok
