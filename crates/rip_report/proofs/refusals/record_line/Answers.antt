use Rattle.std.proofs.Common.{◌≡◌, ◌∙◌, append_assoc, string_bytes}
use Rattle.std.proofs.lemmas.Result.{IfOk-weaker}
use Rattle.rip_report.specs.Texts.{refusal_line}
use Rattle.rip_report.specs.declared.status.Status.TheVariants.{RecordRefused}
use Rattle.parity_store.specs.declared.reading.RecordKind.TheVariants.{Length}
use Rattle.rip_report.proofs.refusals.record_line.Goals as goal

pub returns-in-Length : goal.returns-in-Length
returns-in-Length c = rw c.in-Length.is (IfOk-weaker c.format.result _ (λ made. string_bytes made ≡ refusal_line (RecordRefused (Length c.in-Length.found c.in-Length.wanted))) (λ made so. so ∙ simp append_assoc) c.format.ensures.ok)
