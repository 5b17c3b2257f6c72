use Rattle.std.proofs.Common.{◌≡◌, ◌∙◌, ap, None, rules}
use Rattle.std.specs.FinMap.{get}
use Rattle.rip_outside.specs.Files.{after_make, after_rename}
use Rattle.std.specs.Cmp.Lexicographic.{bytes_decides}
use Rattle.rip_memory.proofs.LeftoverLaws.{rename_made, rename_same, made_is_held, none_of}
use Rattle.rip_memory.proofs.leftover.move_file.Goals as goal

pub returns-then-eq : goal.returns-then-eq
returns-then-eq c =
    let same : c.args.from.now ≡ c.args.to.now = (bytes_decides _ _).0 (search rules) in
    c.remove.ensures ∙ rename_same c.args.from.now c.args.files.now ∙ ap (λ to. after_rename c.args.from.now to c.args.files.now) same

pub rename-requires-clause-held : goal.rename-requires-clause-held
rename-requires-clause-held c =
    let made : c.make.new.self ≡ after_make c.args.from.now c.args.files.now = search rules in
    made_is_held c.args.from.now _ _ made

pub returns-then-is_none : goal.returns-then-is_none
returns-then-is_none c =
    let made : c.make.new.self ≡ after_make c.args.from.now c.args.files.now = search rules in
    let none : get c.args.files.now c.args.from.now ≡ None = none_of _ _ c.bytes.ensures (search rules) in
    let same = rename_made c.args.from.now c.args.to.now c.args.files.now none in
    rw (← same, ← made) c.rename.ensures.ok
