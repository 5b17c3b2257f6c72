-- A disc that was split or joined is read again as it was, by the outcome.
use Rattle.std.proofs.Common.{◌≡◌, ◌∙◌, ℕ, List, ◌++◌, Option, None, Some, Result, Ok, sym, ap, subst, length, ◌≤◌}
use Rattle.std.specs.Prelude.{IfOk, codes, find, is_some}
use Rattle.std.specs.FinMap.{get}
use Rattle.rip_outside.specs.Files.{Files}
use Rattle.rip_outside.specs.Outputs.{after_outputs}
use Rattle.rip_outside.proofs.FilesLaws.{if_told}
use Rattle.rip_inputs.specs.Opening.{IsReadAs, Opened, rip_reading}
use Rattle.rip_inputs.proofs.LengthLaws.{opened_length}
use Rattle.rip_inputs.proofs.ValidLaws.{opened_layout}
use Rattle.rip_words.specs.Command.{NamesMayStand}
use Rattle.rip_words.specs.FileNames.{name_in_folder}
use Rattle.rip_words.specs.declared.Command.{Command}
use Rattle.rip_words.specs.declared.Command.TheVariants.{Join, Split}
use Rattle.rip_report.specs.declared.status.Status.{Status}
use Rattle.rip_report.specs.declared.status.Status.TheVariants.{Done, OutExists}
use Rattle.engine_steps.specs.Outcome.{Outcome, Then}
use Rattle.engine_steps.specs.Steps.{IsAnswered, first_taken, free, opened, part_read, rip_read}
use Rattle.engine_outputs.proofs.BackLaws.{join_read, split_read}
use Rattle.track_split.specs.Tracks.{join_names, split_names}
use Rattle.cmd_join.specs.JoinOutcome.{IsJoinOutcome, joined_as}
use Rattle.cmd_split.specs.SplitOutcome.{IsSplitOutcome, split_in}
use Rattle.rip_commands.specs.Outcomes.{IsOutcomeOf}
use Rattle.rip_engine.specs.Again.{DiscIsReadAgain}
use Rattle.rip_engine.specs.Run.{OutcomeDecides}
use Rattle.rip_commands.specs.Seen.{Seen}

-- a name that is taken ends the command with another status
not_taken : (held part : Option (List ℕ)) (P : Outcome → Type 0) (outcome : Outcome) → Then (first_taken held part) (λ _ o. P o) outcome → outcome.status ≡ Done → P outcome
not_taken (Some out) part P outcome is done = let clash : OutExists out ≡ Done = sym (ap (λ (o : Outcome). o.status) is) ∙ done in let no : ⊥ = cc in absurd no
not_taken None (Some out) P outcome is done = let clash : OutExists (out ++ codes ".part") ≡ Done = sym (ap (λ (o : Outcome). o.status) is) ∙ done in let no : ⊥ = cc in absurd no
not_taken None None P outcome is done = is

module _ (input : List ℕ) (rip : Opened) (files : Files) (reads : rip_reading input files ≡ Ok rip) (outcome : Outcome) (done : outcome.status ≡ Done) where
  found : opened input files ≡ Ok rip
  found = ap rip_read reads

  pub split_again : (folder : List ℕ) → NamesMayStand (Split input folder) → IsSplitOutcome input folder files outcome → IsReadAs rip (folder ++ codes "disc.cue") (after_outputs outcome.outputs files)
  split_again folder may is =
      let names : List (List ℕ) = split_names folder (length rip.toc.starts) in
      let step : Then (free names rip.names files) (λ _ o. o ≡ split_in folder rip) outcome = rw found at is in
      let whole : outcome ≡ split_in folder rip = not_taken (find (λ out. is_some (get files out)) names) (part_read names rip.names) (λ o. o ≡ split_in folder rip) outcome step done in
      subst (λ (o : Outcome). IsReadAs rip (folder ++ codes "disc.cue") (after_outputs o.outputs files)) (sym whole)
      (split_read rip (opened_layout input files rip reads) (opened_length input files rip reads) folder files may)

  pub join_again : (to : List ℕ) → NamesMayStand (Join input to) → length (name_in_folder to) ≤ 1000000 → IsJoinOutcome input to files outcome → IsReadAs rip (to ++ codes ".cue") (after_outputs outcome.outputs files)
  join_again to may few is =
      let names : List (List ℕ) = join_names to in
      let step : Then (free names rip.names files) (λ _ o. o ≡ joined_as to rip) outcome = rw found at is in
      let whole : outcome ≡ joined_as to rip = not_taken (find (λ out. is_some (get files out)) names) (part_read names rip.names) (λ o. o ≡ joined_as to rip) outcome step done in
      subst (λ (o : Outcome). IsReadAs rip (to ++ codes ".cue") (after_outputs o.outputs files)) (sym whole)
      (join_read rip (opened_layout input files rip reads) (opened_length input files rip reads) to files may.0 may.1 few)

pub read_again : (read : Result Command ℕ) (before after : Seen) (status : Status) → OutcomeDecides read before after status → (status ≡ Done → IfOk read NamesMayStand) → DiscIsReadAgain read before after status
read_again read before after status decides may input rip ended = if_told before.held _ (λ files told reads.
    let answered : IsAnswered status = subst IsAnswered (sym ended) tt in
    let o = rw told at (decides answered) in
    let P : Result Command ℕ → Type 0 = λ r. IsOutcomeOf r files o.0 in
    let N : Result Command ℕ → Type 0 = λ r. IfOk r NamesMayStand in (
      λ folder is. (after_outputs o.0.outputs files, o.3, split_again input rip files reads o.0 (o.2 ∙ ended) folder (subst N is (may ended)) (subst P is o.1)),
      λ to is few. (after_outputs o.0.outputs files, o.3, join_again input rip files reads o.0 (o.2 ∙ ended) to (subst N is (may ended)) few (subst P is o.1)),
    ))
