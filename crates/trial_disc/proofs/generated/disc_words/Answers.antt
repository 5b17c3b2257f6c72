use Rattle.std.proofs.Common.{◌≡◌, ◌∙◌, ap, ℕ, ◌+◌, ◌/◌, ◌^◌, ◌++◌, ◌∷◌, [], add-one, arith, rules}
use Rattle.trial_disc.specs.Generated.{next, state}
use Rattle.trial_disc.proofs.MadeLaws.{made_more}
use Rattle.trial_disc.proofs.generated.disc_words.Goals as goal

-- one more step
state-more : (seed n before after : ℕ) → before ≡ state seed n → after ≡ next before → after ≡ state seed (n + 1)
state-more seed n before after is step = rw add-one (step ∙ ap next is)

pub loop-preserved : goal.loop-preserved
loop-preserved c =
    let number = state-more c.args.seed c.loop.counter c.loop.state c.next-state.result c.loop.invariant.number c.next-state.ensures in
    let pushed : c.push.new.self.items ≡ c.loop.words.items ++ c.next-state.result / 2 ^ 32 ∷ [] = search rules in
    record {
      made = made_more (λ i. state c.args.seed (i + 1) / 2 ^ 32) c.loop.counter _ c.loop.words.items c.push.new.self.items c.loop.invariant.made (ap (λ s. s / 2 ^ 32) number) pushed;
      number = number;
      small = omega (arith, c.next-state.ensures);
    }
