use Rattle.std.proofs.Common.{◌≡◌, sym, refl}
use Rattle.rip_report.specs.Texts.{verified_text}
use Rattle.rip_report.specs.declared.status.Status.TheVariants.{Done}
use Rattle.engine_steps.specs.Outcome.{answered}
use Rattle.cmd_verify.proofs.VerifyLaws.{judged_whole}
use Rattle.cmd_verify.proofs.judge.Goals as goal

pub returns-in_ok-text-clause-tells : goal.returns-in_ok-text-clause-tells
returns-in_ok-text-clause-tells c =
    let text : c.in_ok-text.text ≡ verified_text c.args.at = c.in_ok-text.ensures in
    λ files. (answered Done (verified_text c.args.at), sym (judged_whole c.args.at c.if-at-eq0.true), refl, sym text, refl)
