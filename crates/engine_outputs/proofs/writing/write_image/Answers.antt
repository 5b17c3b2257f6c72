use Rattle.std.proofs.Common.{◌≡◌, List, ℕ, ap}
use Rattle.rip_outside.specs.Files.{Files, LeavesName}
use Rattle.rip_outside.specs.declared.fault.ShelfCall.TheVariants.{Rename}
use Rattle.rip_outside.proofs.FilesLaws.{told_weaker}
use Rattle.wav_frames.specs.Wav.{wav_bytes}
use Rattle.image_mender.specs.Joined.{joined_words}
use Rattle.image_mender.specs.declared.mending.MendFail.TheVariants.{WriteFault}
use Rattle.engine_steps.specs.Steps.{mend_stop}
use Rattle.engine_steps.specs.declared.steps.Stop.TheVariants.{WriteFault as WriteStop}
use Rattle.engine_steps.proofs.Leaving.{leaves_name}
use Rattle.engine_outputs.proofs.writing.write_image.Goals as goal

pub returns-in-Err-clause-refused : goal.returns-in-Err-clause-refused
returns-in-Err-clause-refused g c =
    let part = c.args.part.now in
    let to = c.args.to.now in
    let make : Files → List ℕ = λ files. wav_bytes (joined_words c.args.image.now files) in
    let fail = c.in-Err.fail in
    told_weaker (λ old new. LeavesName part to (make old) (fail ≡ WriteFault Rename) old new) (λ old new. LeavesName part to (make old) (c.mend_stop.result ≡ WriteStop Rename) old new) _ _ c.in-Err.ensures.refused
    (λ old new _ left. leaves_name part to (make old) (fail ≡ WriteFault Rename) (c.mend_stop.result ≡ WriteStop Rename) old new (λ e. rw c.mend_stop.ensures (ap mend_stop e)) left)
