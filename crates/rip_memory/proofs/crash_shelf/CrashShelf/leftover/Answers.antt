use Rattle.std.proofs.Common.{◌≡◌, ◌∙◌, ap, [], take, rules}
use Rattle.std.specs.FinMap.{get}
use Rattle.rip_memory.specs.Served.{files_after, unsettled_after}
use Rattle.rip_memory.specs.Leftover.{all_torn}
use Rattle.rip_memory.proofs.LeftoverLaws.{torn_allowed, torn_half, once_from}
use Rattle.rip_memory.proofs.crash_shelf.CrashShelf.leftover.Goals as goal

pub returns-clause-allowed : goal.returns-clause-allowed
returns-clause-allowed c = λ name out.
    let calls = take c.args.calls c.args.self.now.calls in
    let left : c.holding.result.files ≡ all_torn c.args.torn (unsettled_after calls) (files_after calls) = search rules in
    ap (λ files. get files name) left ∙ torn_allowed c.args.torn (unsettled_after calls) (files_after calls) name out

pub returns-clause-torn : goal.returns-clause-torn
returns-clause-torn c = λ name within.
    let calls = take c.args.calls c.args.self.now.calls in
    let left : c.holding.result.files ≡ all_torn c.args.torn (unsettled_after calls) (files_after calls) = search rules in
    ap (λ files. get files name) left ∙ torn_half c.args.torn (unsettled_after calls) (files_after calls) name (once_from calls [] tt) within
