use Rattle.std.proofs.Common.{◌≡◌, ◌∙◌, ◌*◌, List, ℕ, Ok, Some, refl, sym, rules, arith, get_or}
use Rattle.rip_outside.specs.Files.{Files}
use Rattle.rip_outside.proofs.CrashLaws.{told_rests_twice}
use Rattle.rip_outside.proofs.FilesLaws.{if_told}
use Rattle.image_mender.specs.declared.image.Part.{Part}
use Rattle.image_mender.specs.Joined.{word_count}
use Rattle.rip_inputs.specs.Opening.{Opened, lengths_of, names_read}
use Rattle.rip_inputs.specs.Telling.{opened_of}
use Rattle.track_split.specs.Tracks.{join_names}
use Rattle.engine_steps.specs.Outcome.{Then}
use Rattle.engine_steps.specs.Steps.{free, opened}
use Rattle.engine_steps.proofs.CrashingLaws.{safe_after, safe_rests, safe_weaker}
use Rattle.engine_steps.proofs.Leaving.{went_on}
use Rattle.engine_steps.proofs.NameLaws.{unread_differs}
use Rattle.engine_steps.proofs.TakingLaws.{found_told, more_so_far, none_so_far, opened_bytes, takes_last}
use Rattle.cmd_join.specs.JoinOutcome.{IsJoinOutcome, joined_as}
use Rattle.cmd_join.proofs.JoinLaws.{join_meets}
use Rattle.cmd_join.proofs.join.Goals as goal

pub returns-in_err-check_outputs-clause-crashes : goal.returns-in_err-check_outputs-clause-crashes
returns-in_err-check_outputs-clause-crashes g c = safe_rests _ _ _ _ (told_rests_twice _ _ _ c.open_input.ensures.only.crashes c.check_outputs.ensures.only.crashes)

pub write_join-requires-clause-apart : goal.write_join-requires-clause-apart
write_join-requires-clause-apart g c = λ k d below among.
    let rip = c.in_ok-layout.field-0 in
    let name : List ℕ = (let p : Part = get_or rip.image k d in p.name) in
    let parts_same : c.as_slice-3.result.now ≡ c.as_slice-6.result.now = search rules in
    let read : c.as_slice-4.result.now ≡ rip.names = search rules in
    let unread = rw (parts_same, read) at c.in_ok-check_outputs.ensures.unread in
    unread_differs (get_or c.as_slice-6.result.now among.0 name) rip.names name (unread among.0 name among.1) (c.in_ok-layout.ensures.named k d below) (sym among.2)

pub returns-clause-leaves : goal.returns-clause-leaves
returns-clause-leaves g c =
    let h0 = g.S.Shelf.held c.args.shelf.now in
    let input = c.args.input.now in
    let to = c.args.to.now in
    let rip = c.in_ok-layout.field-0 in
    let names = join_names to in
    let outs : c.as_slice-2.result.now ≡ names = search rules in
    let read : c.as_slice-4.result.now ≡ rip.names = search rules in
    went_on (λ files rip. opened_of rip files) (opened input) (λ files (rip : Opened). Then (free (join_names to) rip.names files) (λ _ o. o ≡ joined_as to rip)) h0 _ c.open_input.result rip c.write_join.result
    (search rules) c.open_input.ensures.answer
    (went_on (λ _ _. tt) (free names rip.names) (λ files _ o. o ≡ joined_as to (opened_of rip files)) h0 _ c.check_outputs.result c.in_ok-check_outputs.field-0 c.write_join.result
    (search rules) (rw (c.open_input.ensures.only.same, outs, read) at c.check_outputs.ensures.answer) (rw (c.check_outputs.ensures.only.same, c.open_input.ensures.only.same) at c.write_join.ensures.leaves))

pub returns-clause-crashes : goal.returns-clause-crashes
returns-clause-crashes g c =
    let tells = g.met.S.Shelf.tells_held in
    let h0 = g.S.Shelf.held c.args.shelf.now in
    let input = c.args.input.now in
    let to = c.args.to.now in
    let rip = c.in_ok-layout.field-0 in
    let names = join_names to in
    let outs : c.as_slice-2.result.now ≡ names = search rules in
    let read : c.as_slice-4.result.now ≡ rip.names = search rules in
    let same = c.check_outputs.ensures.only.same ∙ c.open_input.ensures.only.same in
    let found : (files : Files) → h0 ≡ Some files → opened input files ≡ Ok (opened_of rip files) = λ files told.
    found_told h0 (λ files rip. opened_of rip files) (opened input) c.open_input.result rip (search rules) c.open_input.ensures.answer files told in
    let is_free : (files : Files) → h0 ≡ Some files → free names rip.names files ≡ Ok tt = λ files told.
    found_told h0 (λ _ _. tt) (free names rip.names) c.check_outputs.result c.in_ok-check_outputs.field-0 (search rules) (rw (c.open_input.ensures.only.same, outs, read) at c.check_outputs.ensures.answer) files told in
    safe_after (IsJoinOutcome input to) _ _ _ _ (told_rests_twice _ _ _ c.open_input.ensures.only.crashes c.check_outputs.ensures.only.crashes)
    (safe_weaker (λ files o. o ≡ joined_as to (opened_of rip files)) (IsJoinOutcome input to) _ _ _ _ _ (tells c.check_outputs.new.shelf) (tells c.write_join.new.shelf)
    (λ files told o is. join_meets input to (opened_of rip files) files o (found files (sym same ∙ told)) (is_free files (sym same ∙ told)) is) c.write_join.ensures.crashes)

abbrev rip_bytes : List ℕ → Files → ℕ
rip_bytes input files = lengths_of (names_read input files) files

pub returns-clause-taken : goal.returns-clause-taken
returns-clause-taken g c =
    let h0 = g.S.Shelf.held c.args.shelf.now in
    let input = c.args.input.now in
    let rip = c.in_ok-layout.field-0 in
    takes_last h0 _ (rip_bytes input) (λ _. 2 * word_count rip.image) (λ files. 3 * rip_bytes input files) _ _ _ c.write_join.result (c.check_outputs.ensures.only.same ∙ c.open_input.ensures.only.same)
    (rw c.check_outputs.ensures.taken (more_so_far h0 h0 (λ _. 0) (rip_bytes input) (rip_bytes input) _ _ _ c.open_input.result rip (search rules) refl (none_so_far h0 _) c.open_input.ensures.taken (λ files told. omega arith)))
    (if_told _ _ (λ _ _. c.write_join.ensures.taken))
    (λ files told.
    let read : opened input files ≡ Ok (opened_of rip files) = found_told h0 (λ files rip. opened_of rip files) (opened input) c.open_input.result rip (search rules) c.open_input.ensures.answer files told in
    omega (arith, opened_bytes input files (opened_of rip files) read, c.in_ok-layout.ensures.count))
