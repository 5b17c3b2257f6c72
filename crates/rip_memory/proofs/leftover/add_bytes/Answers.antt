use Rattle.std.proofs.Common.{◌≡◌, None, rules}
use Rattle.std.specs.FinMap.{get}
use Rattle.rip_outside.specs.Files.{after_make}
use Rattle.rip_memory.proofs.LeftoverLaws.{append_made, made_is_held, none_of}
use Rattle.rip_memory.proofs.leftover.add_bytes.Goals as goal

pub append-requires : goal.append-requires
append-requires c =
    let made : c.make.new.self ≡ after_make c.args.name.now c.args.files.now = search rules in
    made_is_held c.args.name.now _ _ made

pub returns-then-is_none : goal.returns-then-is_none
returns-then-is_none c =
    let made : c.make.new.self ≡ after_make c.args.name.now c.args.files.now = search rules in
    let none : get c.args.files.now c.args.name.now ≡ None = none_of _ _ c.bytes.ensures (search rules) in
    let same = append_made c.args.name.now c.args.bytes.now c.args.files.now none in
    rw (← same, ← made) c.append.ensures.ok
