use Rattle.std.proofs.Common.{◌≡◌, Err, refl, rules}
use Rattle.engine_steps.specs.Steps.{ComesToEnd}
use Rattle.engine_steps.specs.declared.steps.Answer.{Answer}
use Rattle.engine_steps.proofs.CrashingLaws.{same_end, safe_when}
use Rattle.cmd_repair.proofs.repair.Goals as goal

pub returns-in-Ok-clause-crashes : goal.returns-in-Ok-clause-crashes
returns-in-Ok-clause-crashes g c =
    let ends : ComesToEnd c.mend.result = search rules in
    safe_when _ _ _ _ _ (λ _. ends) c.mend.ensures.crashes

pub returns-in-Err-clause-crashes : goal.returns-in-Err-clause-crashes
returns-in-Err-clause-crashes g c =
    let was : c.mend.result ≡ Err c.in-Err.stop = search rules in
    safe_when _ _ _ _ _ (λ ends. same_end {U = Answer} c.in-Err.stop c.mend.result (Err c.in-Err.stop) was refl ends) c.mend.ensures.crashes
