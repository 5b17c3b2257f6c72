use Rattle.std.proofs.Common.{◌∙◌, ◌<◌, ◌^◌, ap, length, refl, sym, subst, List, ℕ, ℤ, None, Ok, rules}
use Rattle.std.specs.Prelude.{IsTrue, ◌↔◌, codes}
use Rattle.std.proofs.lemmas.List.Elements.{All-from_get_or}
use Rattle.column_map.specs.Columns.{IsOffset, per_column}
use Rattle.column_map.specs.Image.{AreWords}
use Rattle.trial_disc.specs.Compared.{SameCovered}
use Rattle.cmd_trial.specs.TrialOutcome.{known_rip}
use Rattle.engine_search.proofs.PickLaws.{offset_kept, picked_offset}
use Rattle.cmd_trial.proofs.TrialLaws.{sole_rip}
use Rattle.cmd_trial.proofs.QuietLaws.{mended_read}
use Rattle.cmd_trial.proofs.tried.Goals as goal

pub read_rip-requires : goal.read_rip-requires
read_rip-requires c =
    let disc = c.args.disc.now in
    let words : AreWords disc = All-from_get_or (λ w. w < 2 ^ 16) disc 0 (λ i _. search (rules, c.type_inv.disc i)) in
    let m = mended_read c.args.shape disc c.requires.range c.requires.disc_whole c.args.rip.now words c.requires.rip_whole c.in_ok-picked.picked c.in-Ok.at c.mend_rip.new.shelf.files c.in-Ok.is c.in_ok-picked.ensures in
    (sole_rip (codes "out.wav") c.args.shape m.0, m.4)

pub same_covered-same-requires-clause-mended_whole : goal.same_covered-same-requires-clause-mended_whole
same_covered-same-requires-clause-mended_whole c =
    let disc = c.args.disc.now in
    let words : AreWords disc = All-from_get_or (λ w. w < 2 ^ 16) disc 0 (λ i _. search (rules, c.type_inv.disc i)) in
    let m = mended_read c.args.shape disc c.requires.range c.requires.disc_whole c.args.rip.now words c.requires.rip_whole c.in_ok-picked.picked c.in-Ok.at c.mend_rip.new.shelf.files c.in-Ok.is c.in_ok-picked.ensures in
    ap length (c.deref.ensures.value ∙ c.in_ok-mended-in-Ok.ensures (sole_rip (codes "out.wav") c.args.shape m.0) m.4) ∙ m.3

pub same_covered-same-requires-clause-offset : goal.same_covered-same-requires-clause-offset
same_covered-same-requires-clause-offset c =
    let disc = c.args.disc.now in
    let words : AreWords disc = All-from_get_or (λ w. w < 2 ^ 16) disc 0 (λ i _. search (rules, c.type_inv.disc i)) in
    let m = mended_read c.args.shape disc c.requires.range c.requires.disc_whole c.args.rip.now words c.requires.rip_whole c.in_ok-picked.picked c.in-Ok.at c.mend_rip.new.shelf.files c.in-Ok.is c.in_ok-picked.ensures in
    let offset = picked_offset None (known_rip c.args.shape disc c.args.rip.now) c.in-Ok.at m.1 in
    subst IsOffset (sym (offset_kept c.in-Ok.at.offset offset)) offset

pub returns-in-Ok : goal.returns-in-Ok
returns-in-Ok c =
    let disc = c.args.disc.now in
    let words : AreWords disc = All-from_get_or (λ w. w < 2 ^ 16) disc 0 (λ i _. search (rules, c.type_inv.disc i)) in
    let m = mended_read c.args.shape disc c.requires.range c.requires.disc_whole c.args.rip.now words c.requires.rip_whole c.in_ok-picked.picked c.in-Ok.at c.mend_rip.new.shelf.files c.in-Ok.is c.in_ok-picked.ensures in
    let read = c.deref.ensures.value ∙ c.in_ok-mended-in-Ok.ensures (sole_rip (codes "out.wav") c.args.shape m.0) m.4 in
    let kept = offset_kept c.in-Ok.at.offset (picked_offset None (known_rip c.args.shape disc c.args.rip.now) c.in-Ok.at m.1) in
    let Told : ℤ → List ℕ → Type 0 = λ d mended. IsTrue c.same_covered-same.result ↔ SameCovered (per_column c.args.shape) d mended disc in
    let told : Told c.in-Ok.at.offset c.deref.result.now = subst (λ (d : ℤ). Told d c.deref.result.now) kept c.same_covered-same.ensures in
    (Ok c.in-Ok.at, m.1, (refl, (m.0, m.2, subst (Told c.in-Ok.at.offset) read told)))
