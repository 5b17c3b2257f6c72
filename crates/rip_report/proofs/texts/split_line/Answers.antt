use Rattle.std.proofs.Common.{◌≡◌, ◌∙◌, append_assoc, string_bytes}
use Rattle.std.proofs.lemmas.Result.{IfOk-weaker}
use Rattle.rip_report.specs.Texts.{split_line}
use Rattle.rip_report.proofs.texts.split_line.Goals as goal

pub returns : goal.returns
returns c = IfOk-weaker c.format.result _ (λ made. string_bytes made ≡ split_line c.args.folder.now c.args.tracks) (λ made so. so ∙ simp append_assoc) c.format.ensures.ok
