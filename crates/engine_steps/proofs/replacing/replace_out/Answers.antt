use Rattle.std.proofs.Common.{◌≡◌, Ok, Err, ap, refl, rules}
use Rattle.rip_outside.specs.Files.{LeavesName}
use Rattle.rip_outside.specs.declared.fault.ShelfCall.TheVariants.{Rename}
use Rattle.rip_outside.proofs.FilesLaws.{told_weaker}
use Rattle.parity_store.specs.declared.storing.PutFail.TheVariants.{WriteFault}
use Rattle.engine_steps.specs.Steps.{stop_of}
use Rattle.rip_report.specs.declared.status.Status.TheVariants.{Done}
use Rattle.engine_steps.specs.declared.steps.Answer.{Answer}
use Rattle.engine_steps.specs.declared.steps.Stop.TheVariants.{WriteFault as WriteStop}
use Rattle.engine_steps.proofs.Leaving.{leaves_name, put_done, put_stopped, stop_puts}
use Rattle.std.specs.Prelude.{IsOk}
use Rattle.engine_steps.proofs.CrashingLaws.{put_ends_none, safe_put}
use Rattle.engine_steps.proofs.replacing.replace_out.Goals as goal

pub returns-in-Ok-clause-leaves : goal.returns-in-Ok-clause-leaves
returns-in-Ok-clause-leaves g c =
    put_done c.args.part.now c.args.out.now c.args.text c.requires.part (λ _. c.args.bytes.now) (Ok record { status = Done; text = c.args.text }) _ _ _ refl refl c.in-Ok.ensures.ok

pub returns-in-Err-clause-leaves : goal.returns-in-Err-clause-leaves
returns-in-Err-clause-leaves g c =
    let part = c.args.part.now in
    let out = c.args.out.now in
    let bytes = c.args.bytes.now in
    let fail = c.in-Err.fail in
    put_stopped part out c.args.text c.requires.part (λ _. bytes) (stop_of fail) (Err c.put_stop.result) _ _ _ (ap Err c.put_stop.ensures) (stop_puts fail) refl
    (told_weaker (LeavesName part out bytes (fail ≡ WriteFault Rename)) (LeavesName part out bytes (stop_of fail ≡ WriteStop Rename)) _ _ c.in-Err.ensures.refused
    (λ old new _ left. leaves_name part out bytes (fail ≡ WriteFault Rename) (stop_of fail ≡ WriteStop Rename) old new (λ e. ap stop_of e) left))

pub returns-in-Ok-clause-crashes : goal.returns-in-Ok-clause-crashes
returns-in-Ok-clause-crashes g c =
    let well : IsOk c.replace.result = search rules in
    safe_put c.args.part.now c.args.out.now c.args.text (λ _. c.args.bytes.now) _ _ _ _ c.requires.part (λ _. well) c.replace.ensures.crashes

pub returns-in-Err-clause-crashes : goal.returns-in-Err-clause-crashes
returns-in-Err-clause-crashes g c = safe_put c.args.part.now c.args.out.now c.args.text (λ _. c.args.bytes.now) _ _ _ _ c.requires.part (λ ends. absurd (put_ends_none {T = Answer} c.in-Err.fail (Err c.put_stop.result) (ap Err c.put_stop.ensures) ends)) c.replace.ensures.crashes
