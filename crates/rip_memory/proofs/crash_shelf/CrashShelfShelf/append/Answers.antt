use Rattle.std.proofs.Common.{◌≡◌, ◌++◌, ◌∷◌, [], ◌/◌, Some, refl, ap, length, arith, rules}
use Rattle.std.proofs.Math.Seq.{take-length}
use Rattle.rip_outside.specs.Files.{after_append}
use Rattle.rip_memory.specs.Filling.{first_half}
use Rattle.rip_memory.specs.declared.served.Served.TheVariants.{Append}
use Rattle.rip_memory.proofs.ServedLaws.{append_push, write_none, keeps_push, files_pushed, part_push, part_none}
use Rattle.rip_memory.proofs.crash_shelf.CrashShelfShelf.append.Goals as goal

pub returns-in_default-clause-part : goal.returns-in_default-clause-part
returns-in_default-clause-part c = part_none c.args.name.now c.args.bytes.now c.args.self.now.calls c.args.self.now.calls refl (c.requires _ refl)

pub returns-in_default-ready-clause-part : goal.returns-in_default-ready-clause-part
returns-in_default-ready-clause-part c = part_none c.args.name.now c.args.bytes.now c.args.self.now.calls c.ready.new.calls.items (search rules) (c.requires _ refl)

pub returns-in_default-ready-clause-crashes : goal.returns-in_default-ready-clause-crashes
returns-in_default-ready-clause-crashes c = write_none _ _ _ _ (search rules) (search rules)

pub invariant_of-self-in-Ok-append : goal.invariant_of-self-in-Ok-append
invariant_of-self-in-Ok-append c =
    let added : c.append.new.self.files ≡ after_append c.args.name.now c.args.bytes.now c.self.inside.shelf.files = ap (λ s. s.files) c.in-Ok-append.ensures.ok in
    let kept : c.keep_call.new.calls.items ≡ c.self.inside.calls.items ++ Append c.args.name.now c.args.bytes.now ∷ [] = search rules in
    keeps_push _ _ _ _ _ _ _ _ (Append c.args.name.now c.args.bytes.now) c.self.invariant added kept (search rules) c.keep_call.ensures.fits (omega (arith, c.in-Ok-ready.ensures.few))

pub invariant_of-self-in-Err-Failed : goal.invariant_of-self-in-Err-Failed
invariant_of-self-in-Err-Failed c =
    let half = first_half c.args.bytes.now in
    let added : c.append.new.self.files ≡ after_append c.args.name.now half c.self.inside.shelf.files = search rules in
    let kept : c.keep_call-in-Err-Failed.new.calls.items ≡ c.self.inside.calls.items ++ Append c.args.name.now half ∷ [] = search rules in
    keeps_push _ _ _ _ _ _ _ _ (Append c.args.name.now half) c.self.invariant added kept (search rules) c.keep_call-in-Err-Failed.ensures.fits (omega (arith, c.in-Ok-ready.ensures.few))

pub returns-in-Ok-append-clause-appended : goal.returns-in-Ok-append-clause-appended
returns-in-Ok-append-clause-appended c =
    let kept : c.keep_call.new.calls.items ≡ c.args.self.now.calls ++ Append c.args.name.now c.args.bytes.now ∷ [] = search rules in
    ap Some (files_pushed _ _ _ kept)

pub returns-in-Ok-append-clause-part : goal.returns-in-Ok-append-clause-part
returns-in-Ok-append-clause-part c =
    let kept : c.keep_call.new.calls.items ≡ c.args.self.now.calls ++ Append c.args.name.now c.args.bytes.now ∷ [] = search rules in
    part_push c.args.name.now c.args.bytes.now (length c.args.bytes.now) c.args.self.now.calls c.keep_call.new.calls.items (rw take-length kept)

pub returns-in-Ok-append-clause-crashes : goal.returns-in-Ok-append-clause-crashes
returns-in-Ok-append-clause-crashes c =
    let kept : c.keep_call.new.calls.items ≡ c.args.self.now.calls ++ Append c.args.name.now c.args.bytes.now ∷ [] = search rules in
    append_push _ _ _ _ _ kept

pub returns-in-Err-Failed-clause-part : goal.returns-in-Err-Failed-clause-part
returns-in-Err-Failed-clause-part c =
    let kept : c.keep_call-in-Err-Failed.new.calls.items ≡ c.args.self.now.calls ++ Append c.args.name.now (first_half c.args.bytes.now) ∷ [] = search rules in
    part_push _ _ (length c.args.bytes.now / 2) _ _ kept

pub returns-in-Err-Failed-clause-crashes : goal.returns-in-Err-Failed-clause-crashes
returns-in-Err-Failed-clause-crashes c =
    let kept : c.keep_call-in-Err-Failed.new.calls.items ≡ c.args.self.now.calls ++ Append c.args.name.now (first_half c.args.bytes.now) ∷ [] = search rules in
    append_push _ _ _ _ _ kept

pub returns-in-Err-Oom-clause-part : goal.returns-in-Err-Oom-clause-part
returns-in-Err-Oom-clause-part c = part_none c.args.name.now c.args.bytes.now c.args.self.now.calls c.ready.new.calls.items (search rules) (c.requires _ refl)

pub returns-in-Err-Oom-clause-crashes : goal.returns-in-Err-Oom-clause-crashes
returns-in-Err-Oom-clause-crashes c = write_none _ _ _ _ (search rules) (search rules)
