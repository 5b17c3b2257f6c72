-- The bytes that discs take, one after another.
use Rattle.std.proofs.Common.{◌≡◌, ◌≢◌, ℕ, ◌+◌, ◌≤◌, List, [], ◌∷◌, ◌++◌, Option, None, Some, subst, arith}
use Rattle.std.specs.Prelude.{All}
use Rattle.std.specs.Option.{option_to_list}
use Rattle.std.proofs.lemmas.List.Elements.{All-head, All-tail}
use Rattle.rip_outside.specs.Files.{Files}
use Rattle.rip_outside.specs.Outputs.{after_outputs}
use Rattle.rip_outside.proofs.FilesLaws.{when_told}
use Rattle.rip_words.specs.Command.{command_reading}
use Rattle.rip_report.specs.declared.status.Status.TheVariants.{WantOfMemory}
use Rattle.engine_steps.specs.Outcome.{Outcome}
use Rattle.engine_steps.specs.declared.steps.Answer.{Answer}
use Rattle.rip_commands.specs.Look.{Look}
use Rattle.rip_commands.specs.Ran.{NoneRose}
use Rattle.rip_commands.proofs.OneOutcome.{one_outcome}
use Rattle.rip_commands.proofs.RanLaws.{answered_unless}
use Rattle.cmd_batch.specs.Batch.{IsMostOfDiscs, RanInOrder}
use Rattle.cmd_batch.proofs.ChainLaws.{none_fell, none_rose_in}

-- discs of which all but the last told something take at most the sum of their own bounds
pub takes_in_order : (discs : List (List (List ℕ))) (before after : Look) (went : List Answer) (next : Option Answer) → RanInOrder discs before after (went ++ option_to_list next)
    → NoneRose before after → All (λ (told : Answer). told.status ≢ WantOfMemory) went → (files : Files) → before.held ≡ Some files → (most : ℕ) → IsMostOfDiscs discs files most
    → after.taken ≤ before.taken + most
takes_in_order discs before after [] None order none some files held most is = rw order (omega arith)
takes_in_order [] before after [] (Some told) order none some files held most is = absurd order
takes_in_order (words ∷ rest) before after [] (Some told) order none some files held most is =
    let last : after ≡ order.0 = order.2 in
    let own = when_told before.held _ (order.1.taken (subst (NoneRose before) last none)) files held is.0 is.3 in
    rw last (omega (arith, own, is.2))
takes_in_order [] before after (told ∷ went) next order none some files held most is = absurd order
takes_in_order (words ∷ rest) before after (told ∷ went) next order none some files held most is =
    let mid = order.0 in
    let fell = none_fell rest mid after (went ++ option_to_list next) order.2 in
    let here : NoneRose before mid = none_rose_in before before mid after (λ call. omega arith) fell none in
    let there : NoneRose mid after = none_rose_in before mid after after order.1.later (λ call. omega arith) none in
    let own = when_told before.held _ (order.1.taken here) files held is.0 is.3 in
    let answered = answered_unless (command_reading words) before mid told order.1 here (All-head (λ (t : Answer). t.status ≢ WantOfMemory) told went some) in
    let one = when_told before.held _ (order.1.outcome answered) files held in
    let same : is.4.0 ≡ one.0 = one_outcome (command_reading words) files is.4.0 one.0 is.4.1 one.1 in
    let rest_most : IsMostOfDiscs rest (after_outputs one.0.outputs files) is.1 = subst (λ (o : Outcome). IsMostOfDiscs rest (after_outputs o.outputs files) is.1) same is.4.2 in
    let more = takes_in_order rest mid after went next order.2 there (All-tail (λ (t : Answer). t.status ≢ WantOfMemory) told went some) (after_outputs one.0.outputs files) one.4 is.1 rest_most in
    omega (arith, own, more, is.2)
