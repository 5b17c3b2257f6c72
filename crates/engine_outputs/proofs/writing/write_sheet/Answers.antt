use Rattle.std.proofs.Common.{◌≡◌, ap}
use Rattle.rip_outside.specs.Files.{LeavesName}
use Rattle.rip_outside.specs.declared.fault.ShelfCall.TheVariants.{Rename}
use Rattle.rip_outside.proofs.FilesLaws.{told_weaker}
use Rattle.parity_store.specs.declared.storing.PutFail.TheVariants.{WriteFault}
use Rattle.engine_steps.specs.Steps.{stop_of}
use Rattle.engine_steps.specs.declared.steps.Stop.TheVariants.{WriteFault as WriteStop}
use Rattle.engine_steps.proofs.Leaving.{leaves_name}
use Rattle.engine_outputs.proofs.writing.write_sheet.Goals as goal

pub returns-in-Err-clause-refused : goal.returns-in-Err-clause-refused
returns-in-Err-clause-refused g c =
    let part = c.args.part.now in
    let to = c.args.to.now in
    let sheet = c.args.sheet.now in
    let fail = c.in-Err.fail in
    told_weaker (LeavesName part to sheet (fail ≡ WriteFault Rename)) (LeavesName part to sheet (c.put_stop.result ≡ WriteStop Rename)) _ _ c.in-Err.ensures.refused
    (λ old new _ left. leaves_name part to sheet (fail ≡ WriteFault Rename) (c.put_stop.result ≡ WriteStop Rename) old new (λ e. rw c.put_stop.ensures (ap stop_of e)) left)
