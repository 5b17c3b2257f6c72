-- The parts of discs, one after another, and what goes out.
use Rattle.std.proofs.Common.{◌≡◌, ◌∙◌, ℕ, ◌+◌, Bool, true, false, cond, List, [], ◌∷◌, ◌++◌, length, Option, None, Some, refl, sym, ap, append_assoc, arith}
use Rattle.std.specs.Prelude.{filter, not}
use Rattle.std.proofs.lemmas.List.{append-nil}
use Rattle.engine_steps.specs.declared.steps.Answer.{Answer}
use Rattle.rip_commands.specs.Printing.{Wrote}
use Rattle.cmd_batch.specs.BatchOutcome.{failed_of, is_done, parts_from}
use Rattle.cmd_batch.specs.Inner.{part_of_disc}

-- ---- what goes out

pub wrote_none : (told : Option (List ℕ)) → Wrote [] told told
wrote_none None = refl
wrote_none (Some so_far) = ap Some (sym (append-nil so_far))

pub wrote_more : (a b : List ℕ) (old mid new : Option (List ℕ)) → Wrote a old mid → Wrote b mid new → Wrote (a ++ b) old new
wrote_more a b None mid new first second = rw (second, first) refl
wrote_more a b (Some so_far) mid new first second = rw (second, first) (ap Some (append_assoc so_far a b))

-- ---- one part more

pub parts_more : (number : ℕ) (went : List Answer) (told : Answer)
    → parts_from number (went ++ told ∷ []) ≡ parts_from number went ++ part_of_disc (number + length went) told
parts_more number [] told = let same : number + 0 ≡ number = omega arith in rw same (append-nil (part_of_disc number told))
parts_more number (first ∷ went) told =
    let same : number + 1 + length went ≡ number + length (first ∷ went) = omega arith in
    ap (λ others. part_of_disc number first ++ others) (parts_more (number + 1) went told ∙ ap (λ n. parts_from (number + 1) went ++ part_of_disc n told) same)
    ∙ sym (append_assoc (part_of_disc number first) (parts_from (number + 1) went) (part_of_disc (number + length (first ∷ went)) told))

pub failed_more : (went : List Answer) (told : Answer) → failed_of (went ++ told ∷ []) ≡ failed_of went + cond (is_done told.status) 0 1
failed_more [] told = by (is_done told.status)
  where
    by : (done : Bool) → length (cond {A = List Answer} (not done) (told ∷ []) []) ≡ 0 + cond done 0 1
    by true = refl
    by false = refl
failed_more (first ∷ went) told = by (is_done first.status) (failed_more went told)
  where
    by : (done : Bool) → failed_of (went ++ told ∷ []) ≡ failed_of went + cond (is_done told.status) 0 1
        → length (cond {A = List Answer} (not done) (first ∷ filter (λ t. not (is_done t.status)) (went ++ told ∷ [])) (filter (λ t. not (is_done t.status)) (went ++ told ∷ [])))
        ≡ length (cond {A = List Answer} (not done) (first ∷ filter (λ t. not (is_done t.status)) went) (filter (λ t. not (is_done t.status)) went)) + cond (is_done told.status) 0 1
    by true e = e
    by false e = omega (arith, e)
