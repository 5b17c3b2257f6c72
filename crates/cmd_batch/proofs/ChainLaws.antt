-- Discs that ran, one after another.
use Rattle.std.proofs.Common.{◌≡◌, ℕ, List, [], ◌∷◌, ◌++◌, length, Some, refl, subst, arith}
use Rattle.std.specs.Prelude.{slice_get}
use Rattle.rip_outside.specs.declared.shelf.Shelf.{Ghosts as ShelfMeaning}
use Rattle.rip_outside.specs.Causes.{NoneFell}
use Rattle.rip_outside.specs.Crashes.{Rests, WhereForetold}
use Rattle.rip_words.specs.Command.{command_reading}
use Rattle.engine_steps.specs.Crashing.{CrashSafe}
use Rattle.engine_steps.specs.Steps.{IsAnswered}
use Rattle.engine_steps.proofs.CrashingLaws.{safe_after}
use Rattle.engine_steps.specs.declared.steps.Answer.{Answer}
use Rattle.rip_commands.specs.Look.{Look, look}
use Rattle.rip_commands.specs.Outcomes.{IsOutcomeOf}
use Rattle.rip_commands.specs.Ran.{IsTold, NoneRose, Ran}
use Rattle.cmd_batch.specs.Batch.{RanInOrder}

-- one disc more ran
pub ran_more : (discs : List (List (List ℕ))) (before mid after : Look) (went : List Answer) (words : List (List ℕ)) (told : Answer)
    → RanInOrder discs before mid went → slice_get discs (length went) ≡ Some words → Ran (command_reading words) mid after told → RanInOrder discs before after (went ++ told ∷ [])
ran_more [] before mid after [] words told order here ran = cc
ran_more (first ∷ rest) before mid after [] words told order here ran =
    let same : first ≡ words = cc in
    rw (same, ← order) (after, ran, refl)
ran_more [] before mid after (one ∷ went) words told order here ran = absurd order
ran_more (first ∷ rest) before mid after (one ∷ went) words told order here ran = (order.0, order.1, ran_more rest order.0 mid after went words told order.2 here ran)

-- no count falls
pub none_fell : (discs : List (List (List ℕ))) (before after : Look) (tolds : List Answer) → RanInOrder discs before after tolds → NoneFell before.faults after.faults
none_fell discs before after [] order = λ call. rw order (omega arith)
none_fell [] before after (told ∷ others) order = absurd order
none_fell (words ∷ rest) before after (told ∷ others) order = λ call.
    let a = order.1.later call in
    let b = none_fell rest order.0 after others order.2 call in
    omega arith

-- where no call failed in all, none failed in a part of it
pub none_rose_in : (before from to after : Look) → NoneFell before.faults from.faults → NoneFell to.faults after.faults → NoneRose before after → NoneRose from to
none_rose_in before from to after first last none = λ call rose. let a = first call in let b = last call in none call (omega arith)

-- a command that begins anew
pub begun_anew : {S : Type 0} (means : ShelfMeaning S) (words own : List (List ℕ)) (start begun after : S) (told : Answer) → words ≡ own
    → means.held begun ≡ means.held start → means.faults begun ≡ means.faults start → means.taken begun ≡ means.taken start → WhereForetold Rests (means.crashes start) (means.crashes begun)
    → IsTold (command_reading words) (look means begun) (look means after) (means.crashes begun) (means.crashes after) told
    → Ran (command_reading own) (look means start) (look means after) told × CrashSafe (IsOutcomeOf (command_reading own)) (IsAnswered told.status) (means.crashes start) (means.crashes after)
begun_anew means words own start begun after told spelled held faults taken rests is =
    let same : look means begun ≡ look means start = rw (held, faults, taken) refl in
    let done = subst (λ (w : List (List ℕ)). IsTold (command_reading w) (look means begun) (look means after) (means.crashes begun) (means.crashes after) told) spelled is in (
      subst (λ (b : Look). Ran (command_reading own) b (look means after) told) same done.ran,
      safe_after (IsOutcomeOf (command_reading own)) (IsAnswered told.status) (means.crashes start) (means.crashes begun) (means.crashes after) rests done.crashes,
    )
