use Rattle.std.proofs.Common.{◌≡◌, ◌∙◌, append_assoc, string_bytes}
use Rattle.std.proofs.lemmas.Result.{IfOk-weaker}
use Rattle.rip_report.specs.Stores.{merged_line}
use Rattle.rip_report.proofs.stores.merged_line.Goals as goal

pub returns : goal.returns
returns c = IfOk-weaker c.format.result _ (λ made. string_bytes made ≡ merged_line c.args.added c.args.same c.args.differs c.args.skipped) (λ made so. so ∙ simp append_assoc) c.format.ensures.ok
