use Rattle.std.proofs.Common.{◌≡◌, ◌∙◌, ap, ◌++◌, ◌∷◌, [], ◌<◌, rules, arith, w32, w64, to_z, of_z, ℤ, pos, ◌-ℤ◌, ◌*ℤ◌, length}
use Rattle.std.proofs.lemmas.Int.{ints}
use Rattle.trial_disc.specs.Damaged.{late_word, word_at}
use Rattle.trial_disc.proofs.MadeLaws.{made_more}
use Rattle.trial_disc.proofs.damaged.late_words.Goals as goal

pub loop-i-preserved : goal.loop-i-preserved
loop-i-preserved c =
    let shift : ℤ = to_z w32 (of_z w32 c.args.shift) in
    let below : c.loop-i.i < length c.args.disc.now = c.loop-i-test.true in
    let at : to_z w64 (of_z w64 (to_z w64 c.loop-i.i -ℤ to_z w64 (of_z w64 (pos 2 *ℤ to_z w64 (of_z w64 c.from.result))))) ≡ pos c.loop-i.i -ℤ pos 2 *ℤ shift = omega (arith, ints) in
    let pushed : c.push.new.self.items ≡ c.loop-i.words.items ++ c.word_at-word.result ∷ [] = search rules in
    made_more (late_word c.args.disc.now shift) c.loop-i.i c.word_at-word.result c.loop-i.words.items c.push.new.self.items c.loop-i.invariant (c.word_at-word.ensures ∙ ap (word_at c.args.disc.now) at) pushed
