use Rattle.std.proofs.Common.{rules, ◌≢◌, All}
use Rattle.std.specs.Prelude.{codes}
use Rattle.std.proofs.lemmas.List.Elements.{All-contains}
use Rattle.library_cases.proofs.mending.mended.Goals as goal

-- no name that was read is the part's, and each part has one of these names
pub write_mended-requires-clause-apart : goal.write_mended-requires-clause-apart
write_mended-requires-clause-apart c = λ k d below.
    let unread : All (λ read. read ≢ codes "out.wav.part") c.in_ok-rip.rip.names = search rules in
    All-contains (λ read. read ≢ codes "out.wav.part") c.in_ok-rip.rip.names _ unread (c.in_ok-rip.ensures.named k d below)
