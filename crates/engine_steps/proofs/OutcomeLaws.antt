-- At most one outcome, step by step.
use Rattle.std.proofs.Common.{◌≡◌, ◌∙◌, Bool, true, false, Result, Ok, Err, refl, sym, subst}
use Rattle.std.specs.Prelude.{IsTrue, ◌↔◌}
use Rattle.rip_report.specs.declared.status.Status.{Status}
use Rattle.engine_steps.specs.Outcome.{Outcome, Then, ThenOf}

-- ---- at most one text of a trial

-- a fact is told in one way
pub told_once : (P : Type 0) (a b : Bool) → (IsTrue a ↔ P) → (IsTrue b ↔ P) → a ≡ b
told_once P true true is also = refl
told_once P true false is also = sym (also.1 (is.0 refl))
told_once P false true is also = is.1 (also.0 refl)
told_once P false false is also = refl

-- ---- at most one outcome

-- a chain of steps has one outcome
pub then_one : {A : Type 0} (step : Result A Status) (next : A → Outcome → Type 0) (a b : Outcome)
    → ((found : A) → step ≡ Ok found → next found a → next found b → a ≡ b) → Then step next a → Then step next b → a ≡ b
then_one (Err status) next a b one is also = is ∙ sym also
then_one (Ok found) next a b one is also = one found refl is also

pub then_of_one : {A : Type 0} (step : Result A Status → Type 0) (next : A → Outcome → Type 0) (a b : Outcome)
    → ((p q : Result A Status) → step p → step q → p ≡ q) → ((found : A) → step (Ok found) → next found a → next found b → a ≡ b)
    → ThenOf step next a → ThenOf step next b → a ≡ b
then_of_one {A = A} step next a b one more is also = by is.0 is.1 is.2
  where
    by : (p : Result A Status) → step p → Then p next a → a ≡ b
    by p met then =
        let same : also.0 ≡ p = one also.0 p also.1 met in
        let then' : Then p next b = subst (λ (r : Result A Status). Then r next b) same also.2 in
        then_one p next a b (λ found found_is. more found (subst step found_is met)) then then'
