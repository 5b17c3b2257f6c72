use Rattle.std.proofs.Common.{◌≡◌, ◌∙◌, ap, length, rules}
use Rattle.std.proofs.lemmas.List.FromFn.{length-map-range_with_len}
use Rattle.trial_disc.specs.Damaged.{late, late_word}
use Rattle.trial_disc.proofs.damaged.made_rip.Goals as goal

pub damage-requires-clause-whole : goal.damage-requires-clause-whole
damage-requires-clause-whole c =
    let words : c.deref_mut.result.now ≡ late c.args.disc.now c.args.shift = search rules in
    ap length words ∙ length-map-range_with_len (late_word c.args.disc.now c.args.shift) 0 (length c.args.disc.now) ∙ c.requires.whole
