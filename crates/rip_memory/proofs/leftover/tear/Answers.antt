use Rattle.std.proofs.Common.{◌≡◌, Some, rules}
use Rattle.std.specs.FinMap.{get}
use Rattle.rip_outside.specs.Files.{after_make}
use Rattle.rip_memory.specs.Filling.{first_half}
use Rattle.rip_memory.proofs.LeftoverLaws.{torn_made, made_is_held}
use Rattle.rip_memory.proofs.leftover.tear.Goals as goal

pub append-requires : goal.append-requires
append-requires c =
    let made : c.make.new.self ≡ after_make c.args.name.now c.args.files.now = search rules in
    made_is_held c.args.name.now _ _ made

pub returns-in-Some : goal.returns-in-Some
returns-in-Some c =
    let made : c.make.new.self ≡ after_make c.args.name.now c.args.files.now = search rules in
    let held : get c.args.files.now c.args.name.now ≡ Some c.in-Some.bytes.now = search rules in
    let half : c.deref.result.now ≡ first_half c.in-Some.bytes.now = search rules in
    rw (c.if-torn.true, ← torn_made c.args.name.now c.in-Some.bytes.now c.args.files.now held, ← half, ← made) c.append.ensures.ok
