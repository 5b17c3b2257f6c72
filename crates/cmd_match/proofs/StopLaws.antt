-- A call that stops stops its caller.
use Rattle.std.proofs.Common.{◌≡◌, ℕ, Option, None, Some, IfSome, IfOk, Result, Err, arith}
use Rattle.rip_outside.specs.Files.{Files}
use Rattle.rip_outside.specs.Causes.{NoneFell}
use Rattle.rip_outside.specs.declared.fault.ShelfCall.{ShelfCall}
use Rattle.engine_steps.specs.Steps.{ReadsOnly}
use Rattle.engine_steps.specs.declared.steps.Stop.{Stop}
use Rattle.engine_steps.specs.declared.steps.Stop.TheVariants.{Refused, ReadFault as ReadStop, WriteFault as WriteStop, Oom as WantStop}

-- it finds nothing
pub none_found : {T : Type 0} (h : Option Files) (r : Result T Stop) (e : Stop) (P : Files → T → Type 0) → r ≡ Err e → IfSome h (λ files. IfOk r (P files))
none_found None r e P is = tt
none_found (Some files) r e P is = rw is tt

reads_only_at : (T U : Type 0) (f0 f1 f2 : ShelfCall → ℕ) (e : Stop) → NoneFell f0 f1 → ReadsOnly {T = T} f1 f2 (Err e) → ReadsOnly {T = U} f0 f2 (Err e)
reads_only_at T U f0 f1 f2 (Refused status) later cause = cause
reads_only_at T U f0 f1 f2 (ReadStop call) later cause = (cause.0, let before = later call in omega (arith, before, cause.1))
reads_only_at T U f0 f1 f2 (WriteStop call) later cause = cause
reads_only_at T U f0 f1 f2 WantStop later cause = tt

-- and it stops for what the call stopped for
pub reads_only_after : {T U : Type 0} (f0 f1 f2 : ShelfCall → ℕ) (r : Result T Stop) (e : Stop) (result : Result U Stop) → r ≡ Err e → result ≡ Err e → NoneFell f0 f1 → ReadsOnly f1 f2 r → ReadsOnly f0 f2 result
reads_only_after {T = T} {U = U} f0 f1 f2 r e result is out_is later cause = rw out_is (reads_only_at T U f0 f1 f2 e later (rw is at cause))
