use Rattle.std.proofs.Common.{◌≡◌, ◌∙◌, ◌++◌, append_assoc, codes, string_bytes}
use Rattle.std.proofs.lemmas.Result.{IfOk-weaker}
use Rattle.batch_list.specs.declared.fail.ListKind.TheVariants.{BadWords}
use Rattle.rip_report.specs.Kinds.{list_kind_text}
use Rattle.rip_report.specs.Texts.{line}
use Rattle.rip_report.proofs.batch.list_line.Goals as goal

pub returns-in-BadWords : goal.returns-in-BadWords
returns-in-BadWords c =
    let kind = BadWords c.in-BadWords.disc c.in-BadWords.word in
    rw c.in-BadWords.is (IfOk-weaker c.format-in-BadWords.result _ (λ made. string_bytes made ≡ line (codes "list " ++ list_kind_text kind)) (λ made so. so ∙ simp append_assoc) c.format-in-BadWords.ensures.ok)
