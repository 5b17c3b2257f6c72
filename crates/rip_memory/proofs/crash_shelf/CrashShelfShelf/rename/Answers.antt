use Rattle.std.proofs.Common.{◌≡◌, ◌++◌, ◌∷◌, [], Some, refl, ap, inr, true, false, arith, rules}
use Rattle.rip_outside.specs.Files.{after_rename}
use Rattle.rip_memory.specs.declared.served.Served.TheVariants.{Rename}
use Rattle.rip_memory.proofs.ServedLaws.{rename_push, rename_none, keeps_push, files_pushed}
use Rattle.rip_memory.proofs.crash_shelf.CrashShelfShelf.rename.Goals as goal

pub returns-in_default-clause-crashes : goal.returns-in_default-clause-crashes
returns-in_default-clause-crashes c = rename_none _ _ _ _ _ (search rules) (search rules) (c.requires.held _ refl)

pub returns-in_default-ready-clause-crashes : goal.returns-in_default-ready-clause-crashes
returns-in_default-ready-clause-crashes c = rename_none _ _ _ _ _ (search rules) (search rules) (c.requires.held _ refl)

pub invariant_of-self-in-Ok-rename : goal.invariant_of-self-in-Ok-rename
invariant_of-self-in-Ok-rename c =
    let moved : c.rename.new.self.files ≡ after_rename c.args.from.now c.args.to.now c.self.inside.shelf.files = ap (λ s. s.files) c.in-Ok-rename.ensures.ok in
    let kept : c.keep_call.new.calls.items ≡ c.self.inside.calls.items ++ Rename c.args.from.now c.args.to.now true ∷ [] = search rules in
    keeps_push _ _ _ _ _ _ _ _ (Rename c.args.from.now c.args.to.now true) c.self.invariant moved kept (search rules) c.keep_call.ensures.fits (omega (arith, c.in-Ok-ready.ensures.few))

pub invariant_of-self-in-Err-Failed : goal.invariant_of-self-in-Err-Failed
invariant_of-self-in-Err-Failed c =
    let moved : c.rename.new.self.files ≡ c.self.inside.shelf.files = ap (λ s. s.files) c.in-Err-Failed.ensures.err in
    let kept : c.keep_call-in-Err-Failed.new.calls.items ≡ c.self.inside.calls.items ++ Rename c.args.from.now c.args.to.now false ∷ [] = search rules in
    keeps_push _ _ _ _ _ _ _ _ (Rename c.args.from.now c.args.to.now false) c.self.invariant moved kept (search rules) c.keep_call-in-Err-Failed.ensures.fits (omega (arith, c.in-Ok-ready.ensures.few))

pub returns-in-Ok-rename-clause-renamed : goal.returns-in-Ok-rename-clause-renamed
returns-in-Ok-rename-clause-renamed c =
    let kept : c.keep_call.new.calls.items ≡ c.args.self.now.calls ++ Rename c.args.from.now c.args.to.now true ∷ [] = search rules in
    ap Some (files_pushed _ _ _ kept)

pub returns-in-Ok-rename-clause-crashes : goal.returns-in-Ok-rename-clause-crashes
returns-in-Ok-rename-clause-crashes c =
    let kept : c.keep_call.new.calls.items ≡ c.args.self.now.calls ++ Rename c.args.from.now c.args.to.now true ∷ [] = search rules in
    rename_push _ _ true _ _ _ kept (c.requires.held _ refl)

pub returns-in-Err-Failed-clause-failed : goal.returns-in-Err-Failed-clause-failed
returns-in-Err-Failed-clause-failed c = λ _.
    let kept : c.keep_call-in-Err-Failed.new.calls.items ≡ c.args.self.now.calls ++ Rename c.args.from.now c.args.to.now false ∷ [] = search rules in
    inr (ap Some (files_pushed _ _ _ kept))

pub returns-in-Err-Failed-clause-crashes : goal.returns-in-Err-Failed-clause-crashes
returns-in-Err-Failed-clause-crashes c =
    let kept : c.keep_call-in-Err-Failed.new.calls.items ≡ c.args.self.now.calls ++ Rename c.args.from.now c.args.to.now false ∷ [] = search rules in
    rename_push _ _ false _ _ _ kept (c.requires.held _ refl)

pub returns-in-Err-Oom-clause-crashes : goal.returns-in-Err-Oom-clause-crashes
returns-in-Err-Oom-clause-crashes c = rename_none _ _ _ _ _ (search rules) (search rules) (c.requires.held _ refl)
