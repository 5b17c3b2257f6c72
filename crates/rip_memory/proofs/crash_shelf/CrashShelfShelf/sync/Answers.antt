use Rattle.std.proofs.Common.{◌≡◌, ◌++◌, ◌∷◌, [], Some, sym, ◌∙◌, ap, true, false, arith, rules}
use Rattle.rip_outside.specs.Crashes.{is_among}
use Rattle.rip_memory.specs.declared.served.Served.TheVariants.{Sync}
use Rattle.rip_memory.specs.Served.{unsettled_after}
use Rattle.rip_memory.proofs.ServedLaws.{sync_push, sync_none, keeps_push, keeps_settled, files_pushed}
use Rattle.rip_memory.proofs.crash_shelf.CrashShelfShelf.sync.Goals as goal

pub invariant_of-self-in-Some : goal.invariant_of-self-in-Some
invariant_of-self-in-Some c =
    let same : c.sync.new.self.files ≡ c.self.inside.shelf.files = ap (λ s. s.files) c.sync.ensures.after in
    let kept : c.add_call.new.calls.items ≡ c.self.inside.calls.items ++ Sync c.args.name.now ∷ [] = search rules in
    keeps_push _ _ _ _ _ _ _ _ (Sync c.args.name.now) c.self.invariant same kept c.take_name.ensures.names (omega (arith, c.in-Some.ensures.fewer)) (omega (arith, c.in-Some.ensures.fewer))

pub invariant_of-self-in_default : goal.invariant_of-self-in_default
invariant_of-self-in_default c =
    let same : c.sync.new.self.files ≡ c.self.inside.shelf.files = ap (λ s. s.files) c.sync.ensures.after in
    let out : is_among c.args.name.now c.self.inside.unsettled.items ≡ false = search rules in
    rw same (keeps_settled _ _ _ _ _ c.args.name.now c.self.invariant c.take_name.ensures.names out)

pub returns-in-Some-clause-same : goal.returns-in-Some-clause-same
returns-in-Some-clause-same c =
    let kept : c.add_call.new.calls.items ≡ c.args.self.now.calls ++ Sync c.args.name.now ∷ [] = search rules in
    ap Some (files_pushed _ _ _ kept)

pub returns-in-Some-clause-crashes : goal.returns-in-Some-clause-crashes
returns-in-Some-clause-crashes c =
    let kept : c.add_call.new.calls.items ≡ c.args.self.now.calls ++ Sync c.args.name.now ∷ [] = search rules in
    sync_push _ _ _ kept

pub returns-in_default-clause-crashes : goal.returns-in_default-clause-crashes
returns-in_default-clause-crashes c =
    let out : is_among c.args.name.now c.self.inside.unsettled.items ≡ false = search rules in
    let calls : c.self.inside.calls.items ≡ c.args.self.now.calls = ap (λ s. s.calls) c.self.view_is in
    let settled : is_among c.args.name.now (unsettled_after c.args.self.now.calls) ≡ false = ap (λ u. is_among c.args.name.now u) (sym (c.self.invariant.names ∙ ap unsettled_after calls)) ∙ out in
    sync_none _ true _ _ calls (λ _. settled)
