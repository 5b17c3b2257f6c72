use Rattle.std.proofs.Common.{◌≡◌, ◌∙◌, ◌*◌, ap, length, sym, List, ℕ, ℤ, of_z, to_z, w32}
use Rattle.std.proofs.lemmas.Result.{IfOk-weaker}
use Rattle.column_map.specs.Columns.{per_column}
use Rattle.trial_disc.specs.Damaged.{damaged, late}
use Rattle.rip_report.specs.Trial.{trial_lines}
use Rattle.cmd_trial.specs.TrialOutcome.{IsTrialText}
use Rattle.engine_search.proofs.PickLaws.{offset_kept}
use Rattle.cmd_trial.proofs.TrialLaws.{disc_whole, length-made}
use Rattle.cmd_trial.proofs.QuietLaws.{trial_end}
use Rattle.cmd_trial.proofs.trial.Goals as goal

pub made_rip-requires-clause-whole : goal.made_rip-requires-clause-whole
made_rip-requires-clause-whole c =
    let shape : c.in-Some.shape ≡ c.args.sectors = c.in-Some.ensures.shape in
    ap length (c.deref.ensures.value ∙ c.in_ok-disc.ensures) ∙ disc_whole c.args.seed c.args.sectors ∙ ap (λ s. 1176 * s) (sym shape)

pub tried-requires-clause-disc_whole : goal.tried-requires-clause-disc_whole
tried-requires-clause-disc_whole c =
    let shape : c.in-Some.shape ≡ c.args.sectors = c.in-Some.ensures.shape in
    ap length (c.deref-2.ensures.value ∙ c.in_ok-disc.ensures) ∙ disc_whole c.args.seed c.args.sectors ∙ ap (λ s. 1176 * s) (sym shape)

pub tried-requires-clause-rip_whole : goal.tried-requires-clause-rip_whole
tried-requires-clause-rip_whole c =
    let shape : c.in-Some.shape ≡ c.args.sectors = c.in-Some.ensures.shape in
    ap length (c.deref-3.ensures.value ∙ c.in_ok-rip.ensures) ∙ length-made (per_column c.in-Some.shape) (to_z w32 (of_z w32 c.args.shift)) c.args.hits c.deref.result.now
    ∙ ap length (c.deref.ensures.value ∙ c.in_ok-disc.ensures) ∙ disc_whole c.args.seed c.args.sectors ∙ ap (λ s. 1176 * s) (sym shape)

pub returns : goal.returns
returns c =
    let disc = c.deref-2.ensures.value ∙ c.in_ok-disc.ensures in
    let same : c.deref.result.now ≡ c.deref-2.result.now = c.deref.ensures.value ∙ sym c.deref-2.ensures.value in
    let kept = offset_kept c.args.shift c.requires.shift_offset in
    let made : c.in_ok-rip.rip.items ≡ damaged (per_column c.in-Some.shape) (to_z w32 (of_z w32 c.args.shift)) c.args.hits (late c.deref.result.now (to_z w32 (of_z w32 c.args.shift))) = c.in_ok-rip.ensures in
    let rip = c.deref-3.ensures.value ∙ made ∙ ap (λ (d : ℤ). damaged (per_column c.in-Some.shape) d c.args.hits (late c.deref.result.now d)) kept ∙ ap (λ (words : List ℕ). damaged (per_column c.in-Some.shape) c.args.shift c.args.hits (late words c.args.shift)) same in
    let end = trial_end c.args.sectors c.args.seed c.args.shift c.args.hits c.in-Some.shape c.deref-2.result.now c.deref-3.result.now c.in_ok-result.result c.in-Some.ensures.shape disc rip c.in_ok-result.ensures in
    IfOk-weaker c.text_of.result (λ text. text ≡ trial_lines c.args.sectors c.args.seed (to_z w32 (of_z w32 c.args.shift)) c.args.hits c.in_ok-result.result) (λ text. IsTrialText c.args.sectors c.args.seed c.args.shift c.args.hits text)
    (λ text is. (c.in_ok-result.result, end, is ∙ ap (λ (d : ℤ). trial_lines c.args.sectors c.args.seed d c.args.hits c.in_ok-result.result) kept)) c.text_of.ensures
