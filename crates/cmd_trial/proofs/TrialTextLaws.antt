-- A trial has one text.
use Rattle.std.proofs.Common.{◌≡◌, ◌∙◌, ◌≤◌, ℕ, List, None, Result, Ok, Err, refl, sym, ap, ap₂, subst, arith, ℤ}
use Rattle.std.specs.Prelude.{IsTrue, ◌↔◌}
use Rattle.column_map.specs.Columns.{per_column}
use Rattle.column_map.specs.declared.candidate.Candidate.{Candidate}
use Rattle.trial_disc.specs.Compared.{SameCovered}
use Rattle.rip_words.specs.Command.{IsTrial}
use Rattle.rip_report.specs.Trial.{trial_lines}
use Rattle.rip_report.specs.declared.report.TrialResult.{TrialResult}
use Rattle.rip_report.specs.declared.report.TrialResult.TheVariants.{Mended, NoneNear, Several as TrialSeveral}
use Rattle.cmd_trial.specs.TrialOutcome.{IsTrialEnd, IsTrialResult, IsTrialText, trial_disc_words, trial_known}
use Rattle.rip_report.specs.declared.status.Status.{Status}
use Rattle.rip_report.specs.declared.status.Status.TheVariants.{NoCandidate, Several}
use Rattle.engine_steps.specs.Steps.{Known}
use Rattle.engine_search.specs.Picking.{Picks}
use Rattle.engine_search.proofs.PickLaws.{picked_offset, picks_one, mended_once}
use Rattle.engine_steps.proofs.OutcomeLaws.{told_once}

module _ (disc : List ℕ) (known : Known) (small : per_column known.sectors ≤ 65535) where
  result_once : (picked : Result Candidate Status) (a b : TrialResult) → Picks None known picked → IsTrialResult disc known picked a → IsTrialResult disc known picked b → a ≡ b
  result_once (Ok picked) (Mended at same) (Mended at' same') picks is also =
      let d : ℤ = picked.offset in
      let one : also.1.0 ≡ is.1.0 = mended_once known small d also.1.0 is.1.0 (picked_offset None known picked picks) also.1.1 is.1.1 in
      let Told : List ℕ → Type 0 = λ mended. IsTrue same' ↔ SameCovered (per_column known.sectors) d mended disc in
      ap₂ Mended (is.0 ∙ sym also.0) (told_once (SameCovered (per_column known.sectors) d is.1.0 disc) same same' is.1.2 (subst Told one also.1.2))
  result_once (Ok picked) (Mended at same) other picks is also = absurd also
  result_once (Err NoCandidate) NoneNear NoneNear picks is also = refl
  result_once (Err NoCandidate) NoneNear other picks is also = absurd also
  result_once (Err (Several first second)) (TrialSeveral a b) (TrialSeveral a' b') picks is also = ap₂ TrialSeveral (is.0 ∙ sym also.0) (is.1 ∙ sym also.1)
  result_once (Err (Several first second)) (TrialSeveral a b) other picks is also = absurd also
  result_once picked a b picks is also = absurd is

  end_once : (a b : TrialResult) → IsTrialEnd disc known a → IsTrialEnd disc known b → a ≡ b
  end_once a b is also =
      let one : also.0 ≡ is.0 = picks_one known small None also.0 is.0 also.1 is.1 in
      let Of : Result Candidate Status → Type 0 = λ picked. IsTrialResult disc known picked b in
      result_once is.0 a b is.1 is.2 (subst Of one also.2)

pub one_text : (sectors seed : ℕ) (shift : ℤ) (hits : ℕ) → IsTrial sectors shift hits → (a b : List ℕ) → IsTrialText sectors seed shift hits a → IsTrialText sectors seed shift hits b → a ≡ b
one_text sectors seed shift hits trial a b is also =
    let most : sectors ≤ 9000 = trial.most_sectors in
    let small : per_column sectors ≤ 65535 = omega arith in
    is.2 ∙ ap (trial_lines sectors seed shift hits) (end_once (trial_disc_words seed sectors) (trial_known sectors seed shift hits) small is.0 also.0 is.1 also.1) ∙ sym also.2
