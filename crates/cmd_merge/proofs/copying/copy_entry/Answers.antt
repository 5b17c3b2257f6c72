use Rattle.std.proofs.Common.{◌≡◌, ◌∙◌, List, ℕ, Option, Some, ap, inl, refl, subst, sym, take}
use Rattle.std.specs.Option.{ForSome}
use Rattle.rip_outside.specs.Crashes.{Outlook, PutsWhole, Rests, StoresWhole, TellsHeld, WhereForetold}
use Rattle.rip_outside.specs.Files.{Files, LeavesName, WhereTold, bytes_at}
use Rattle.rip_outside.specs.declared.fault.ShelfCall.TheVariants.{Rename}
use Rattle.rip_outside.proofs.FilesLaws.{told-same, told_weaker, when_told}
use Rattle.rip_outside.proofs.StoreLaws.{told_rests_then_stores, told_stores_otherwise}
use Rattle.parity_store.specs.declared.storing.PutFail.TheVariants.{WriteFault}
use Rattle.store_upkeep.specs.Entries.{EntryState}
use Rattle.store_upkeep.specs.Looking.{IsCopied}
use Rattle.engine_steps.specs.Steps.{stop_of}
use Rattle.engine_steps.specs.declared.steps.Stop.TheVariants.{WriteFault as WriteStop}
use Rattle.engine_steps.proofs.Leaving.{leaves_name}
use Rattle.cmd_merge.proofs.copying.copy_entry.Goals as goal

-- nothing was written
untouched : (part out : List ℕ) (make : Files → List ℕ) (renaming : Type 0) (files : Files) → LeavesName part out (make files) renaming files files
untouched part out make renaming files = record { others = λ other a b. refl; before_or_whole = inl refl }

-- the same bytes
said_so : (part out bytes made : List ℕ) (renaming : Type 0) (old left : Files) → bytes ≡ made → LeavesName part out bytes renaming old left → LeavesName part out made renaming old left
said_so part out bytes made renaming old left same leaves = subst (λ (b : List ℕ). LeavesName part out b renaming old left) same leaves

pub returns-in-Err-clause-refused : goal.returns-in-Err-clause-refused
returns-in-Err-clause-refused g c =
    told-same (λ old new. LeavesName c.args.part.now c.args.out.now (bytes_at c.args.name.now old) (c.look_stop.result ≡ WriteStop Rename) old new) _ _ c.copy_good.ensures.only.same
    (untouched c.args.part.now c.args.out.now (bytes_at c.args.name.now) (c.look_stop.result ≡ WriteStop Rename))

copied_bytes : (state : EntryState) (bytes buffer : List ℕ) (found : Option ℕ) (size : ℕ) → found ≡ Some size → IsCopied state bytes buffer found → take size buffer ≡ bytes
copied_bytes state bytes buffer found size is copied = (subst (IsCopied state bytes buffer) is copied).1

module _ (part out name : List ℕ) (buffer : List ℕ) (size : ℕ) (h0 h1 : Option Files) (same : h1 ≡ h0) (copied : ForSome h0 (λ files. take size buffer ≡ bytes_at name files)) where
  put_refused : (h2 : Option Files) (was is : Type 0) → (was → is) → WhereTold (LeavesName part out (take size buffer) was) h1 h2 → WhereTold (λ old new. LeavesName part out (bytes_at name old) is old new) h0 h2
  put_refused h2 was is goes refused =
      told_weaker (LeavesName part out (take size buffer) was) (λ old new. LeavesName part out (bytes_at name old) is old new) h0 h2 (subst (λ (h : Option Files). WhereTold (LeavesName part out (take size buffer) was) h h2) same refused)
      (λ old new told left. leaves_name part out (bytes_at name old) was is old new goes (said_so part out (take size buffer) (bytes_at name old) was old new (copied old told) left))

  put_safe : (h2 : Option Files) (o0 o1 o2 : Outlook) (well : Type 0) → TellsHeld h1 o1 → TellsHeld h2 o2 → WhereForetold Rests o0 o1 → WhereForetold (PutsWhole part out (take size buffer) well) o1 o2
      → WhereForetold (StoresWhole (λ old left. LeavesName part out (bytes_at name old) (Unit {0}) old left) well) o0 o2
  put_safe h2 o0 o1 o2 well t1 t2 rests puts =
      told_rests_then_stores (λ old left. LeavesName part out (bytes_at name old) (Unit {0}) old left) (untouched part out (bytes_at name) (Unit {0})) well o0 o1 o2 rests
      (told_stores_otherwise (LeavesName part out (take size buffer) (Unit {0})) (λ old left. LeavesName part out (bytes_at name old) (Unit {0}) old left) well well h1 h2 o1 o2 t1 t2
      (λ old told left leaves. said_so part out (take size buffer) (bytes_at name old) (Unit {0}) old left (copied old (sym same ∙ told)) leaves) (λ w. w) puts)

pub returns-in-Err-put-clause-refused : goal.returns-in-Err-put-clause-refused
returns-in-Err-put-clause-refused g c =
    let h0 = g.S.Shelf.held c.args.shelf.now in
    let name = c.args.name.now in
    let fail = c.in-Err-put.fail in
    put_refused c.args.part.now c.args.out.now name c.copy_good.new.buf c.in-Ok-Some.size h0 (g.S.Shelf.held c.copy_good.new.shelf) c.copy_good.ensures.only.same
    (λ files told. copied_bytes _ (bytes_at name files) c.copy_good.new.buf c.in-Ok-Some.field-0 c.in-Ok-Some.size c.in-Ok-Some.field-0-is (when_told h0 _ c.in-Ok-Some.ensures.answer files told))
    (g.S.Shelf.held c.put.new.shelf) (fail ≡ WriteFault Rename) (c.put_stop.result ≡ WriteStop Rename) (λ e. c.put_stop.ensures ∙ ap stop_of e) c.in-Err-put.ensures.refused

pub returns-in-Ok-clause-crashes : goal.returns-in-Ok-clause-crashes
returns-in-Ok-clause-crashes g c =
    let h0 = g.S.Shelf.held c.args.shelf.now in
    let name = c.args.name.now in
    let tells = g.met.S.Shelf.tells_held in
    put_safe c.args.part.now c.args.out.now name c.copy_good.new.buf c.in-Ok-Some.size h0 (g.S.Shelf.held c.copy_good.new.shelf) c.copy_good.ensures.only.same
    (λ files told. copied_bytes _ (bytes_at name files) c.copy_good.new.buf c.in-Ok-Some.field-0 c.in-Ok-Some.size c.in-Ok-Some.field-0-is (when_told h0 _ c.in-Ok-Some.ensures.answer files told))
    (g.S.Shelf.held c.put.new.shelf) _ _ _ _ (tells c.copy_good.new.shelf) (tells c.put.new.shelf) c.copy_good.ensures.only.crashes c.in-Ok.ensures.crashes

pub returns-in-Err-put-clause-crashes : goal.returns-in-Err-put-clause-crashes
returns-in-Err-put-clause-crashes g c =
    let h0 = g.S.Shelf.held c.args.shelf.now in
    let name = c.args.name.now in
    let tells = g.met.S.Shelf.tells_held in
    put_safe c.args.part.now c.args.out.now name c.copy_good.new.buf c.in-Ok-Some.size h0 (g.S.Shelf.held c.copy_good.new.shelf) c.copy_good.ensures.only.same
    (λ files told. copied_bytes _ (bytes_at name files) c.copy_good.new.buf c.in-Ok-Some.field-0 c.in-Ok-Some.size c.in-Ok-Some.field-0-is (when_told h0 _ c.in-Ok-Some.ensures.answer files told))
    (g.S.Shelf.held c.put.new.shelf) _ _ _ _ (tells c.copy_good.new.shelf) (tells c.put.new.shelf) c.copy_good.ensures.only.crashes c.in-Err-put.ensures.crashes
