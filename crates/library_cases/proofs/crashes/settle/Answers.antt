use Rattle.std.proofs.Common.{Some, refl}
use Rattle.rip_outside.specs.Files.{IsHeld}
use Rattle.rip_outside.proofs.FilesLaws.{get-insert_same, told_after}
use Rattle.rip_memory.specs.Filling.{after_fill}
use Rattle.rip_memory.specs.Served.{files_after}
use Rattle.library_cases.proofs.crashes.settle.Goals as goal

-- a file that was filled is held
pub sync-requires : goal.sync-requires
sync-requires c = told_after (after_fill c.args.name.now c.args.bytes.now) (Some (files_after c.args.files.now.calls)) _ (λ _. Unit {0})
    (IsHeld c.args.name.now) c.in_ok-fill.ensures.ok (λ _ _. tt) (λ files _. rw get-insert_same refl)
