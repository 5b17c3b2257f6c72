use Rattle.std.proofs.Common.{◌≡◌, ◌∙◌, append_assoc, string_bytes}
use Rattle.std.proofs.lemmas.Result.{IfOk-weaker}
use Rattle.rip_report.specs.Stores.{fate_line}
use Rattle.rip_report.proofs.stores.fate_line.Goals as goal

pub returns : goal.returns
returns c = IfOk-weaker c.format.result _ (λ made. string_bytes made ≡ fate_line c.args.word.now c.args.name.now) (λ made so. so ∙ simp append_assoc) c.format.ensures.ok
