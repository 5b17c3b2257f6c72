use Rattle.std.proofs.Common.{◌≡◌, List, ℕ, Ok, Err, ap, refl, rules}
use Rattle.rip_outside.specs.Files.{Files, LeavesName}
use Rattle.rip_outside.specs.declared.fault.ShelfCall.TheVariants.{Rename}
use Rattle.rip_outside.proofs.FilesLaws.{told_weaker}
use Rattle.wav_frames.specs.Wav.{wav_bytes}
use Rattle.column_map.specs.declared.candidate.Candidate.{Candidate}
use Rattle.image_mender.specs.Joined.{joined_words}
use Rattle.image_mender.specs.Patched.{patched}
use Rattle.image_mender.specs.declared.mending.MendFail.TheVariants.{WriteFault}
use Rattle.engine_steps.specs.Steps.{mend_stop}
use Rattle.rip_report.specs.Texts.{written_text}
use Rattle.rip_report.specs.declared.status.Status.TheVariants.{Done}
use Rattle.engine_steps.specs.declared.steps.Stop.TheVariants.{WriteFault as WriteStop}
use Rattle.engine_steps.proofs.Leaving.{leaves_name, put_done, put_stopped, stop_mends}
use Rattle.std.specs.Prelude.{IsOk}
use Rattle.engine_steps.proofs.CrashingLaws.{mend_ends_none, safe_put}
use Rattle.cmd_repair.proofs.write_repair.Goals as goal

pub returns-in-Ok-clause-leaves : goal.returns-in-Ok-clause-leaves
returns-in-Ok-clause-leaves g c =
    let make : Files → List ℕ = λ files. wav_bytes (patched c.args.picked.now.fixes.items (joined_words c.args.image.now files)) in
    let text : c.in_ok-text.text ≡ written_text c.args.picked.now.at c.args.to.now = search rules in
    put_done c.args.part.now c.args.to.now (written_text c.args.picked.now.at c.args.to.now) c.requires.part make (Ok record { status = Done; text = c.in_ok-text.text }) _ _ _ (ap (λ t. Ok record { status = Done; text = t }) text) refl (rw c.deref.ensures.value at c.in-Ok.ensures.ok)

pub returns-clause-leaves : goal.returns-clause-leaves
returns-clause-leaves g c =
    let part = c.args.part.now in
    let to = c.args.to.now in
    let make : Files → List ℕ = λ files. wav_bytes (patched c.args.picked.now.fixes.items (joined_words c.args.image.now files)) in
    let fail = c.in-Err.fail in
    put_stopped part to (written_text c.args.picked.now.at c.args.to.now) c.requires.part make (mend_stop fail) (Err c.mend_stop.result) _ _ _ (ap Err c.mend_stop.ensures) (stop_mends fail) refl
    (told_weaker (λ old new. LeavesName part to (make old) (fail ≡ WriteFault Rename) old new) (λ old new. LeavesName part to (make old) (mend_stop fail ≡ WriteStop Rename) old new) _ _ (rw c.deref.ensures.value at c.in-Err.ensures.refused)
    (λ old new _ left. leaves_name part to (make old) (fail ≡ WriteFault Rename) (mend_stop fail ≡ WriteStop Rename) old new (λ e. ap mend_stop e) left))

pub returns-in-Ok-clause-crashes : goal.returns-in-Ok-clause-crashes
returns-in-Ok-clause-crashes g c =
    let make : Files → List ℕ = λ files. wav_bytes (patched c.args.picked.now.fixes.items (joined_words c.args.image.now files)) in
    let well : IsOk c.write_mended.result = search rules in
    safe_put c.args.part.now c.args.to.now (written_text c.args.picked.now.at c.args.to.now) make _ _ _ _ c.requires.part (λ _. well) (rw c.deref.ensures.value at c.write_mended.ensures.crashes)

pub returns-clause-crashes : goal.returns-clause-crashes
returns-clause-crashes g c =
    let make : Files → List ℕ = λ files. wav_bytes (patched c.args.picked.now.fixes.items (joined_words c.args.image.now files)) in
    safe_put c.args.part.now c.args.to.now (written_text c.args.picked.now.at c.args.to.now) make _ _ _ _ c.requires.part (λ ends. absurd (mend_ends_none {T = Candidate × List ℕ} c.in-Err.fail (Err c.mend_stop.result) (ap Err c.mend_stop.ensures) ends)) (rw c.deref.ensures.value at c.write_mended.ensures.crashes)
