-- What the discs of a list come to, where no call failed.
use Rattle.std.proofs.Common.{◌≡◌, ◌≢◌, ◌∙◌, ℕ, List, [], ◌∷◌, length, Option, Some, refl, sym, ap, ap₂, subst, arith}
use Rattle.std.specs.Prelude.{All, flat_map}
use Rattle.std.proofs.lemmas.List.Elements.{All-head, All-tail}
use Rattle.rip_outside.specs.Files.{Files}
use Rattle.rip_outside.specs.Outputs.{after_outputs}
use Rattle.rip_outside.proofs.OutputLaws.{outputs_more}
use Rattle.rip_outside.proofs.FilesLaws.{when_told}
use Rattle.rip_words.specs.Command.{command_reading}
use Rattle.rip_report.specs.declared.status.Status.TheVariants.{WantOfMemory}
use Rattle.engine_steps.specs.Outcome.{Outcome}
use Rattle.engine_steps.specs.Steps.{IsAnswered}
use Rattle.engine_steps.specs.declared.steps.Answer.{Answer}
use Rattle.engine_steps.proofs.OutcomeLaws.{then_one}
use Rattle.rip_commands.specs.Look.{Look}
use Rattle.rip_commands.specs.Ran.{NoneRose}
use Rattle.rip_commands.proofs.OneOutcome.{one_outcome}
use Rattle.rip_commands.proofs.RanLaws.{answered_unless}
use Rattle.cmd_batch.specs.Batch.{RanInOrder}
use Rattle.cmd_batch.specs.BatchOutcome.{AreOutcomes, IsBatchOutcome, batched, discs_listed, answers_of}
use Rattle.cmd_batch.proofs.ChainLaws.{none_fell, none_rose_in}

-- ---- the outcomes of discs that ran

pub record Came (discs : List (List (List ℕ))) (files : Files) (tolds : List Answer) (held : Option Files) : Type 0 where
  pub outcomes : List Outcome
  pub are : AreOutcomes discs files outcomes
  pub tell : answers_of outcomes ≡ tolds
  pub leave : held ≡ Some (after_outputs (flat_map (λ (o : Outcome). o.outputs) outcomes) files)

pub came_of : (discs : List (List (List ℕ))) (before after : Look) (tolds : List Answer) → RanInOrder discs before after tolds → length tolds ≡ length discs → NoneRose before after
    → All (λ (told : Answer). told.status ≢ WantOfMemory) tolds → (files : Files) → before.held ≡ Some files → Came discs files tolds after.held
came_of [] before after [] order whole none some files held = record { outcomes = []; are = tt; tell = refl; leave = rw order held }
came_of (words ∷ rest) before after [] order whole none some files held = cc
came_of [] before after (told ∷ others) order whole none some files held = absurd order
came_of (words ∷ rest) before after (told ∷ others) order whole none some files held =
    let mid = order.0 in
    let fell = none_fell rest mid after others order.2 in
    let here : NoneRose before mid = none_rose_in before before mid after (λ call. omega arith) fell none in
    let there : NoneRose mid after = none_rose_in before mid after after order.1.later (λ call. omega arith) none in
    let answered : IsAnswered told.status = answered_unless (command_reading words) before mid told order.1 here (All-head (λ (t : Answer). t.status ≢ WantOfMemory) told others some) in
    let one = when_told before.held _ (order.1.outcome answered) files held in
    let size : length others ≡ length rest = omega (arith, whole) in
    let more = came_of rest mid after others order.2 size there (All-tail (λ (t : Answer). t.status ≢ WantOfMemory) told others some) (after_outputs one.0.outputs files) one.4 in
    record {
      outcomes = one.0 ∷ more.outcomes;
      are = (one.1, more.are);
      tell = rw (one.2, one.3, more.tell) refl;
      leave = more.leave ∙ ap Some (sym (outputs_more one.0.outputs (flat_map (λ (o : Outcome). o.outputs) more.outcomes) files));
    }

-- ---- at most one outcome

outcomes_once : (discs : List (List (List ℕ))) (files : Files) (a b : List Outcome) → AreOutcomes discs files a → AreOutcomes discs files b → a ≡ b
outcomes_once [] files [] [] are also = refl
outcomes_once [] files [] (o ∷ b) are also = absurd also
outcomes_once [] files (o ∷ a) b are also = absurd are
outcomes_once (words ∷ rest) files [] b are also = absurd are
outcomes_once (words ∷ rest) files (o ∷ a) [] are also = absurd also
outcomes_once (words ∷ rest) files (o ∷ a) (p ∷ b) are also =
    let same : p ≡ o = one_outcome (command_reading words) files p o also.0 are.0 in
    ap₂ (λ (x : Outcome) (xs : List Outcome). x ∷ xs) (sym same) (outcomes_once rest (after_outputs o.outputs files) a b are.1 (subst (λ (x : Outcome). AreOutcomes rest (after_outputs x.outputs files) b) same also.1))

pub batch_once : (list : List ℕ) (files : Files) (a b : Outcome) → IsBatchOutcome list files a → IsBatchOutcome list files b → a ≡ b
batch_once list files a b is also =
    then_one (discs_listed list files) _ a b (λ discs _ is also. is.2 ∙ ap batched (outcomes_once discs files is.0 also.0 is.1 also.1) ∙ sym also.2) is also
