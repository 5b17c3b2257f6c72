use Rattle.std.proofs.Common.{◌≡◌, ◌*◌, None, ℤ, arith, refl, rules, subst}
use Rattle.rip_outside.proofs.FilesLaws.{if_told}
use Rattle.rip_words.specs.Command.{IsTrial}
use Rattle.rip_words.specs.declared.Command.TheVariants.{MatchSums, Offsets, Register, Repair, Sums, Trial, Upgrade, Verify, Join, Split, ListStore, CheckStore, MergeStores}
use Rattle.rip_report.specs.declared.status.Status.TheVariants.{Done}
use Rattle.engine_steps.specs.Outcome.{answered}
use Rattle.cmd_trial.specs.TrialOutcome.{IsTrialText}
use Rattle.engine_search.proofs.PickLaws.{offset_kept}
use Rattle.engine_steps.proofs.CrashingLaws.{safe_none, safe_rests}
use Rattle.rip_inputs.specs.Opening.{lengths_of, names_read}
use Rattle.engine_steps.specs.Comparing.{compared_names}
use Rattle.cmd_match.specs.MatchOutcome.{matched_names}
use Rattle.cmd_merge.specs.MergeOutcome.{merged_names}
use Rattle.store_upkeep.specs.Entries.{entries_in}
use Rattle.rip_commands.proofs.RanLaws.{takes_most, takes_most_compared, takes_nothing}
use Rattle.rip_commands.proofs.perform.Goals as goal

pub returns-in-Register-clause-leaves : goal.returns-in-Register-clause-leaves
returns-in-Register-clause-leaves g c =
    let read : c.args.command ≡ Register c.as_str.result.now c.as_str-in-Register.result.now c.in-Register.npar = search rules in
    rw read c.register.ensures.leaves

pub returns-in-Verify-clause-leaves : goal.returns-in-Verify-clause-leaves
returns-in-Verify-clause-leaves g c =
    let read : c.args.command ≡ Verify c.as_str-in-Verify.result.now c.as_str-in-Verify-2.result.now c.in-Verify.offset = search rules in
    rw read c.verify.ensures.leaves

pub returns-in-Repair-clause-leaves : goal.returns-in-Repair-clause-leaves
returns-in-Repair-clause-leaves g c =
    let read : c.args.command ≡ Repair c.as_str-in-Repair.result.now c.as_str-in-Repair-2.result.now c.as_str-in-Repair-3.result.now c.in-Repair.offset = search rules in
    rw read c.repair.ensures.leaves

pub returns-in-Sums-clause-leaves : goal.returns-in-Sums-clause-leaves
returns-in-Sums-clause-leaves g c =
    let read : c.args.command ≡ Sums c.as_str-in-Sums.result.now = search rules in
    rw read c.sums.ensures.leaves

pub returns-in-Offsets-clause-leaves : goal.returns-in-Offsets-clause-leaves
returns-in-Offsets-clause-leaves g c =
    let read : c.args.command ≡ Offsets c.as_str-in-Offsets.result.now c.as_str-in-Offsets-2.result.now = search rules in
    rw read c.offsets.ensures.leaves

pub returns-in_ok-trial-in-Trial-clause-leaves : goal.returns-in_ok-trial-in-Trial-clause-leaves
returns-in_ok-trial-in-Trial-clause-leaves g c =
    let asked = c.in-Trial in
    let read : c.args.command ≡ Trial asked.sectors asked.seed asked.shift asked.hits = search rules in
    let range : IsTrial asked.sectors asked.shift asked.hits = rw read at c.requires.trial in
    let Of : ℤ → Type 0 = λ d. IsTrialText asked.sectors asked.seed d asked.hits c.in_ok-trial-in-Trial.field-0 in
    let told : Of asked.shift = subst Of (offset_kept asked.shift range.shift_offset) c.in_ok-trial-in-Trial.ensures in
    rw read (if_told (g.F.Shelf.held c.args.shelf.now) _ (λ files same. (answered Done c.in_ok-trial-in-Trial.field-0, (range, (c.in_ok-trial-in-Trial.field-0, told, refl)), refl, refl, same)))

pub returns-in_ok-trial-in-Trial-clause-no_file : goal.returns-in_ok-trial-in-Trial-clause-no_file
returns-in_ok-trial-in-Trial-clause-no_file g c =
    let asked = c.in-Trial in
    let read : c.args.command ≡ Trial asked.sectors asked.seed asked.shift asked.hits = search rules in
    let range : IsTrial asked.sectors asked.shift asked.hits = rw read at c.requires.trial in
    let Of : ℤ → Type 0 = λ d. IsTrialText asked.sectors asked.seed d asked.hits c.in_ok-trial-in-Trial.field-0 in
    let told : Of asked.shift = subst Of (offset_kept asked.shift range.shift_offset) c.in_ok-trial-in-Trial.ensures in
    rw read (λ none. (answered Done c.in_ok-trial-in-Trial.field-0, (range, (c.in_ok-trial-in-Trial.field-0, told, refl)), refl, refl))

pub returns-in-Register-clause-crashes : goal.returns-in-Register-clause-crashes
returns-in-Register-clause-crashes g c =
    let read : c.args.command ≡ Register c.as_str.result.now c.as_str-in-Register.result.now c.in-Register.npar = search rules in
    rw read c.register.ensures.crashes

pub returns-in-Repair-clause-crashes : goal.returns-in-Repair-clause-crashes
returns-in-Repair-clause-crashes g c =
    let read : c.args.command ≡ Repair c.as_str-in-Repair.result.now c.as_str-in-Repair-2.result.now c.as_str-in-Repair-3.result.now c.in-Repair.offset = search rules in
    rw read c.repair.ensures.crashes

pub returns-in-Verify-clause-crashes : goal.returns-in-Verify-clause-crashes
returns-in-Verify-clause-crashes g c = safe_rests _ _ _ _ c.verify.ensures.only.crashes

pub returns-in-Offsets-clause-crashes : goal.returns-in-Offsets-clause-crashes
returns-in-Offsets-clause-crashes g c = safe_rests _ _ _ _ c.offsets.ensures.only.crashes

pub returns-in-Sums-clause-crashes : goal.returns-in-Sums-clause-crashes
returns-in-Sums-clause-crashes g c = safe_rests _ _ _ _ c.sums.ensures.only.crashes

pub returns-in_ok-trial-in-Trial-clause-crashes : goal.returns-in_ok-trial-in-Trial-clause-crashes
returns-in_ok-trial-in-Trial-clause-crashes g c = safe_none _ _ _

pub returns-in_err-trial-in-Trial-clause-crashes : goal.returns-in_err-trial-in-Trial-clause-crashes
returns-in_err-trial-in-Trial-clause-crashes g c = safe_none _ _ _

pub returns-in-Register-clause-taken : goal.returns-in-Register-clause-taken
returns-in-Register-clause-taken g c =
    let read : c.args.command ≡ Register c.as_str.result.now c.as_str-in-Register.result.now c.in-Register.npar = search rules in
    rw read (takes_most (g.F.Shelf.held c.args.shelf.now) (λ files. 3 * lengths_of (names_read c.as_str.result.now files) files) c.register.result _ _ c.register.ensures.taken)

pub returns-in-Verify-clause-taken : goal.returns-in-Verify-clause-taken
returns-in-Verify-clause-taken g c =
    let read : c.args.command ≡ Verify c.as_str-in-Verify.result.now c.as_str-in-Verify-2.result.now c.in-Verify.offset = search rules in
    rw read (takes_most_compared (g.F.Shelf.held c.args.shelf.now) c.as_str-in-Verify.result.now c.as_str-in-Verify-2.result.now c.in-Verify.offset c.verify.result _ _ c.verify.ensures.taken)

pub returns-in-Offsets-clause-taken : goal.returns-in-Offsets-clause-taken
returns-in-Offsets-clause-taken g c =
    let read : c.args.command ≡ Offsets c.as_str-in-Offsets.result.now c.as_str-in-Offsets-2.result.now = search rules in
    rw read (takes_most_compared (g.F.Shelf.held c.args.shelf.now) c.as_str-in-Offsets.result.now c.as_str-in-Offsets-2.result.now None c.offsets.result _ _ c.offsets.ensures.taken)

pub returns-in-Repair-clause-taken : goal.returns-in-Repair-clause-taken
returns-in-Repair-clause-taken g c =
    let read : c.args.command ≡ Repair c.as_str-in-Repair.result.now c.as_str-in-Repair-2.result.now c.as_str-in-Repair-3.result.now c.in-Repair.offset = search rules in
    rw read (takes_most_compared (g.F.Shelf.held c.args.shelf.now) c.as_str-in-Repair.result.now c.as_str-in-Repair-2.result.now c.in-Repair.offset c.repair.result _ _ c.repair.ensures.taken)

pub returns-in-Upgrade-clause-crashes : goal.returns-in-Upgrade-clause-crashes
returns-in-Upgrade-clause-crashes g c =
    let read : c.args.command ≡ Upgrade c.as_str-in-Upgrade.result.now c.as_str-in-Upgrade-2.result.now = search rules in
    rw read c.upgrade.ensures.crashes

pub returns-in-Upgrade-clause-leaves : goal.returns-in-Upgrade-clause-leaves
returns-in-Upgrade-clause-leaves g c =
    let read : c.args.command ≡ Upgrade c.as_str-in-Upgrade.result.now c.as_str-in-Upgrade-2.result.now = search rules in
    rw read c.upgrade.ensures.leaves

pub returns-in-Upgrade-clause-taken : goal.returns-in-Upgrade-clause-taken
returns-in-Upgrade-clause-taken g c =
    let read : c.args.command ≡ Upgrade c.as_str-in-Upgrade.result.now c.as_str-in-Upgrade-2.result.now = search rules in
    rw read (takes_most (g.F.Shelf.held c.args.shelf.now) (λ files. 3 * lengths_of (compared_names c.as_str-in-Upgrade.result.now c.as_str-in-Upgrade-2.result.now files) files) c.upgrade.result _ _ c.upgrade.ensures.taken)

pub returns-in-MatchSums-clause-leaves : goal.returns-in-MatchSums-clause-leaves
returns-in-MatchSums-clause-leaves g c =
    let read : c.args.command ≡ MatchSums c.as_str-in-MatchSums.result.now c.as_str-in-MatchSums-2.result.now = search rules in
    rw read c.match_sums.ensures.leaves

pub returns-in-MatchSums-clause-crashes : goal.returns-in-MatchSums-clause-crashes
returns-in-MatchSums-clause-crashes g c = safe_rests _ _ _ _ c.match_sums.ensures.only.crashes

pub returns-in-MatchSums-clause-taken : goal.returns-in-MatchSums-clause-taken
returns-in-MatchSums-clause-taken g c =
    let read : c.args.command ≡ MatchSums c.as_str-in-MatchSums.result.now c.as_str-in-MatchSums-2.result.now = search rules in
    rw read (takes_most (g.F.Shelf.held c.args.shelf.now) (λ files. 11 * lengths_of (matched_names c.as_str-in-MatchSums.result.now c.as_str-in-MatchSums-2.result.now files) files) c.match_sums.result _ _ c.match_sums.ensures.taken)

pub returns-in-Sums-clause-taken : goal.returns-in-Sums-clause-taken
returns-in-Sums-clause-taken g c =
    let read : c.args.command ≡ Sums c.as_str-in-Sums.result.now = search rules in
    rw read (takes_most (g.F.Shelf.held c.args.shelf.now) (λ files. 3 * lengths_of (names_read c.as_str-in-Sums.result.now files) files) c.sums.result _ _ c.sums.ensures.taken)

pub returns-in_ok-trial-in-Trial-clause-taken : goal.returns-in_ok-trial-in-Trial-clause-taken
returns-in_ok-trial-in-Trial-clause-taken g c = if_told (g.F.Shelf.held c.args.shelf.now) _ (λ files told most is. omega arith)

pub returns-in_err-trial-in-Trial-clause-taken : goal.returns-in_err-trial-in-Trial-clause-taken
returns-in_err-trial-in-Trial-clause-taken g c = if_told (g.F.Shelf.held c.args.shelf.now) _ (λ files told most is. takes_nothing most _ _)

pub returns-in-Split-clause-leaves : goal.returns-in-Split-clause-leaves
returns-in-Split-clause-leaves g c =
    let read : c.args.command ≡ Split c.as_str-in-Split.result.now c.as_str-in-Split-2.result.now = search rules in
    rw read c.split.ensures.leaves

pub returns-in-Split-clause-crashes : goal.returns-in-Split-clause-crashes
returns-in-Split-clause-crashes g c =
    let read : c.args.command ≡ Split c.as_str-in-Split.result.now c.as_str-in-Split-2.result.now = search rules in
    rw read c.split.ensures.crashes

pub returns-in-Split-clause-taken : goal.returns-in-Split-clause-taken
returns-in-Split-clause-taken g c =
    let read : c.args.command ≡ Split c.as_str-in-Split.result.now c.as_str-in-Split-2.result.now = search rules in
    rw read (takes_most (g.F.Shelf.held c.args.shelf.now) (λ files. 3 * lengths_of (names_read c.as_str-in-Split.result.now files) files) c.split.result _ _ c.split.ensures.taken)

pub returns-in-Join-clause-leaves : goal.returns-in-Join-clause-leaves
returns-in-Join-clause-leaves g c =
    let read : c.args.command ≡ Join c.as_str-in-Join.result.now c.as_str-in-Join-2.result.now = search rules in
    rw read c.join.ensures.leaves

pub returns-in-Join-clause-crashes : goal.returns-in-Join-clause-crashes
returns-in-Join-clause-crashes g c =
    let read : c.args.command ≡ Join c.as_str-in-Join.result.now c.as_str-in-Join-2.result.now = search rules in
    rw read c.join.ensures.crashes

pub returns-in-Join-clause-taken : goal.returns-in-Join-clause-taken
returns-in-Join-clause-taken g c =
    let read : c.args.command ≡ Join c.as_str-in-Join.result.now c.as_str-in-Join-2.result.now = search rules in
    rw read (takes_most (g.F.Shelf.held c.args.shelf.now) (λ files. 3 * lengths_of (names_read c.as_str-in-Join.result.now files) files) c.join.result _ _ c.join.ensures.taken)

pub returns-in-ListStore-clause-leaves : goal.returns-in-ListStore-clause-leaves
returns-in-ListStore-clause-leaves g c =
    let read : c.args.command ≡ ListStore c.as_str-in-ListStore.result.now = search rules in
    rw read c.list.ensures.leaves

pub returns-in-ListStore-clause-crashes : goal.returns-in-ListStore-clause-crashes
returns-in-ListStore-clause-crashes g c = safe_rests _ _ _ _ c.list.ensures.only.crashes

pub returns-in-ListStore-clause-taken : goal.returns-in-ListStore-clause-taken
returns-in-ListStore-clause-taken g c =
    let read : c.args.command ≡ ListStore c.as_str-in-ListStore.result.now = search rules in
    rw read (takes_most (g.F.Shelf.held c.args.shelf.now) (λ files. 3 * lengths_of (entries_in c.as_str-in-ListStore.result.now files) files) c.list.result _ _ c.list.ensures.taken)

pub returns-in-CheckStore-clause-leaves : goal.returns-in-CheckStore-clause-leaves
returns-in-CheckStore-clause-leaves g c =
    let read : c.args.command ≡ CheckStore c.as_str-in-CheckStore.result.now = search rules in
    rw read c.check.ensures.leaves

pub returns-in-CheckStore-clause-crashes : goal.returns-in-CheckStore-clause-crashes
returns-in-CheckStore-clause-crashes g c = safe_rests _ _ _ _ c.check.ensures.only.crashes

pub returns-in-CheckStore-clause-taken : goal.returns-in-CheckStore-clause-taken
returns-in-CheckStore-clause-taken g c =
    let read : c.args.command ≡ CheckStore c.as_str-in-CheckStore.result.now = search rules in
    rw read (takes_most (g.F.Shelf.held c.args.shelf.now) (λ files. 3 * lengths_of (entries_in c.as_str-in-CheckStore.result.now files) files) c.check.result _ _ c.check.ensures.taken)

pub returns-in-MergeStores-clause-leaves : goal.returns-in-MergeStores-clause-leaves
returns-in-MergeStores-clause-leaves g c =
    let read : c.args.command ≡ MergeStores c.as_str-in-MergeStores.result.now c.as_str-in-MergeStores-2.result.now = search rules in
    rw read c.merge.ensures.leaves

pub returns-in-MergeStores-clause-crashes : goal.returns-in-MergeStores-clause-crashes
returns-in-MergeStores-clause-crashes g c =
    let read : c.args.command ≡ MergeStores c.as_str-in-MergeStores.result.now c.as_str-in-MergeStores-2.result.now = search rules in
    rw read c.merge.ensures.crashes

pub returns-in-MergeStores-clause-taken : goal.returns-in-MergeStores-clause-taken
returns-in-MergeStores-clause-taken g c =
    let read : c.args.command ≡ MergeStores c.as_str-in-MergeStores.result.now c.as_str-in-MergeStores-2.result.now = search rules in
    rw read (takes_most (g.F.Shelf.held c.args.shelf.now) (λ files. 3 * lengths_of (merged_names c.as_str-in-MergeStores.result.now c.as_str-in-MergeStores-2.result.now files) files) c.merge.result _ _ c.merge.ensures.taken)
