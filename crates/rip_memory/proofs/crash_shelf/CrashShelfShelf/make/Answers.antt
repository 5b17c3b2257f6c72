use Rattle.std.proofs.Common.{◌≡◌, ◌++◌, ◌∷◌, [], Some, ap, inr, true, false, arith, rules}
use Rattle.rip_outside.specs.Files.{after_make}
use Rattle.rip_memory.specs.declared.served.Served.TheVariants.{Make}
use Rattle.rip_memory.proofs.ServedLaws.{make_push, write_none, keeps_push, files_pushed}
use Rattle.rip_memory.proofs.crash_shelf.CrashShelfShelf.make.Goals as goal
use Rattle.rip_memory.proofs.crash_shelf.CrashShelfShelf.make.Goals.{In-Ok-make, In-Err-Failed}

pub invariant_of-self-in-Ok-make : goal.invariant_of-self-in-Ok-make
invariant_of-self-in-Ok-make c =
    let made : c.make.new.self.files ≡ after_make c.args.name.now c.self.inside.shelf.files = ap (λ s. s.files) c.in-Ok-make.ensures.ok in
    let kept : c.keep_call.new.calls.items ≡ c.self.inside.calls.items ++ Make c.args.name.now true ∷ [] = search rules in
    keeps_push _ _ _ _ _ _ _ _ (Make c.args.name.now true) c.self.invariant made kept (search rules) c.keep_call.ensures.fits (omega (arith, c.in-Ok.ensures.few))

pub invariant_of-self-in-Err-Failed : goal.invariant_of-self-in-Err-Failed
invariant_of-self-in-Err-Failed c =
    let made : c.make.new.self.files ≡ c.self.inside.shelf.files = ap (λ s. s.files) c.in-Err-Failed.ensures.err in
    let kept : c.keep_call-in-Err-Failed.new.calls.items ≡ c.self.inside.calls.items ++ Make c.args.name.now false ∷ [] = search rules in
    keeps_push _ _ _ _ _ _ _ _ (Make c.args.name.now false) c.self.invariant made kept (search rules) c.keep_call-in-Err-Failed.ensures.fits (omega (arith, c.in-Ok.ensures.few))

pub returns-in-Ok-make-clause-made : goal.returns-in-Ok-make-clause-made
returns-in-Ok-make-clause-made c =
    let kept : c.keep_call.new.calls.items ≡ c.args.self.now.calls ++ Make c.args.name.now true ∷ [] = search rules in
    ap Some (files_pushed _ _ _ kept)

pub returns-in-Ok-make-clause-crashes : goal.returns-in-Ok-make-clause-crashes
returns-in-Ok-make-clause-crashes c =
    let kept : c.keep_call.new.calls.items ≡ c.args.self.now.calls ++ Make c.args.name.now true ∷ [] = search rules in
    make_push _ true _ _ _ kept

pub returns-in-Err-Failed-clause-failed : goal.returns-in-Err-Failed-clause-failed
returns-in-Err-Failed-clause-failed c = λ _.
    let kept : c.keep_call-in-Err-Failed.new.calls.items ≡ c.args.self.now.calls ++ Make c.args.name.now false ∷ [] = search rules in
    inr (ap Some (files_pushed _ _ _ kept))

pub returns-in-Err-Failed-clause-crashes : goal.returns-in-Err-Failed-clause-crashes
returns-in-Err-Failed-clause-crashes c =
    let kept : c.keep_call-in-Err-Failed.new.calls.items ≡ c.args.self.now.calls ++ Make c.args.name.now false ∷ [] = search rules in
    make_push _ false _ _ _ kept

pub returns-in-Err-Oom-clause-crashes : goal.returns-in-Err-Oom-clause-crashes
returns-in-Err-Oom-clause-crashes c = write_none _ _ _ _ (search rules) (search rules)
