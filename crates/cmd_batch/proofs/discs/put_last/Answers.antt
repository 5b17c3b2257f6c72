use Rattle.std.proofs.Common.{◌≡◌, ◌∙◌, inl, inr, ℕ, List, take, subst, rules}
use Rattle.rip_report.specs.Texts.{batch_line}
use Rattle.rip_commands.specs.Printing.{Wrote}
use Rattle.cmd_batch.proofs.discs.put_last.Goals as goal

pub returns-in-Ok : goal.returns-in-Ok
returns-in-Ok g c =
    let told = g.K.Sink.told in
    let text : c.as_bytes.result.now ≡ batch_line c.args.discs c.args.failed = search rules in
    elim c.report.ensures.printed [
      | inl whole ↦ inl (whole.0 ∙ c.batch_status.ensures, subst (λ (t : List ℕ). Wrote t (told c.args.out.now) (told c.report.new.out)) text whole.1)
      | inr sink ↦ inr (inl (sink.0, sink.1, (sink.2.0, subst (λ (t : List ℕ). Wrote (take sink.2.0 t) (told c.args.out.now) (told c.report.new.out)) text sink.2.1)))
    ]
