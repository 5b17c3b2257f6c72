use Rattle.std.proofs.Common.{◌≡◌, ◌∙◌, ◌*◌, ◌<◌, ◌≤◌, ◌^◌, ℕ, List, [], ◌∷◌, Ok, Err, arith, ap, rules, subst, sym}
use Rattle.std.specs.FinMap.{get, insert}
use Rattle.std.specs.Prelude.{All, Contains, codes, slice_index_or}
use Rattle.std.proofs.lemmas.List.Elements.{All-from_get_or, Contains-append_left}
use Rattle.rip_outside.specs.Files.{Files, after_put}
use Rattle.rip_outside.specs.Outputs.{part_of}
use Rattle.column_map.specs.Columns.{per_column}
use Rattle.column_map.specs.Image.{AreWords}
use Rattle.wav_frames.specs.Wav.{wav_bytes}
use Rattle.image_mender.specs.declared.image.Part.{Part}
use Rattle.image_mender.specs.Joined.{joined_words, word_count}
use Rattle.image_mender.specs.Patched.{patched}
use Rattle.rip_report.specs.declared.status.Status.{Status}
use Rattle.engine_steps.specs.Steps.{compared}
use Rattle.engine_steps.specs.Comparing.{both_of, known_of, names_of}
use Rattle.engine_steps.specs.declared.comparing.Compared.{Compared}
use Rattle.engine_search.proofs.PickLaws.{covered_below}
use Rattle.cmd_trial.specs.TrialOutcome.{known_rip}
use Rattle.cmd_trial.specs.TrialFiles.{IsMendedTrial, registered_files, trial_files}
use Rattle.cmd_trial.proofs.QuietLaws.{mended_not, mended_well, opens_or_wants, same_known, same_names, went}
use Rattle.cmd_trial.proofs.TrialLaws.{out_absent, trial_compared, trial_names, unread}
use Rattle.cmd_trial.proofs.mend_rip.Goals as goal

-- the shelf on which the rip stands as well
with_rip : (sectors : ℕ) (disc rip : List ℕ) (old now : Files) → old ≡ registered_files sectors disc → now ≡ insert old (codes "rip.wav") (wav_bytes rip) → now ≡ trial_files sectors disc rip
unfolding trial_files
with_rip sectors disc rip old now is added = added ∙ ap (λ (f : Files). insert f (codes "rip.wav") (wav_bytes rip)) is

pub map_err-requires : goal.map_err-requires
map_err-requires c e is =
    let sectors = c.args.shape in
    let disc = c.args.disc.now in
    let rip = c.args.rip.now in
    let words : AreWords disc = All-from_get_or (λ w. w < 2 ^ 16) disc 0 (λ i _. search (rules, c.type_inv.disc i)) in
    let files = c.store_wav.new.shelf.files in
    let stands : files ≡ trial_files sectors disc rip = with_rip sectors disc rip _ files c.requires.registered c.in_ok-store_wav.ensures in
    let C : Files → Type 0 = λ held. compared (codes "rip.wav") (codes "disc.rpar") held ≡ Ok (known_rip sectors disc rip, trial_names) in
    opens_or_wants (λ (found : Compared). both_of files found) (compared (codes "rip.wav") (codes "disc.rpar") files) (known_rip sectors disc rip, trial_names) e
    (subst C (sym stands) (trial_compared sectors disc c.requires.range c.requires.disc_whole rip words c.requires.rip_whole))
    (rw is at c.compare.ensures.answer) (rw is at c.compare.ensures.cause)

pub write_rip-requires-clause-lie : goal.write_rip-requires-clause-lie
write_rip-requires-clause-lie c =
    let found = c.in_ok-image.field-0 in
    let read = went c.compare.result c.map_err.result found _ c.in_ok-image.was c.map_err.ensures.cases c.map_err.ensures.variant in
    let low : 30 ≤ found.shape = (rw read at c.compare.ensures.range).0 in
    let count : word_count found.image ≡ 1176 * found.shape = rw read at c.compare.ensures.count in
    covered_below (per_column found.shape) (word_count found.image) c.in-Ok.picked.at.offset c.in-Ok.picked.fixes.items (omega (arith, count, low)) c.in-Ok.ensures.lie

pub write_rip-requires-clause-apart : goal.write_rip-requires-clause-apart
write_rip-requires-clause-apart c k d below =
    let sectors = c.args.shape in
    let disc = c.args.disc.now in
    let rip = c.args.rip.now in
    let words : AreWords disc = All-from_get_or (λ w. w < 2 ^ 16) disc 0 (λ i _. search (rules, c.type_inv.disc i)) in
    let files = c.store_wav.new.shelf.files in
    let stands : files ≡ trial_files sectors disc rip = with_rip sectors disc rip _ files c.requires.registered c.in_ok-store_wav.ensures in
    let found = c.in_ok-image.field-0 in
    let read = went c.compare.result c.map_err.result found _ c.in_ok-image.was c.map_err.ensures.cases c.map_err.ensures.variant in
    let own : compared (codes "rip.wav") (codes "disc.rpar") files ≡ Ok (both_of files found) = rw read at c.compare.ensures.answer in
    let names : names_of found ≡ trial_names = same_names sectors disc c.requires.range c.requires.disc_whole rip words c.requires.rip_whole files found stands own in
    let named : All (λ (part : Part). Contains found.names part.name) found.image = rw read at c.compare.ensures.named in
    let name : List ℕ = (slice_index_or found.image k d).name in
    unread name (subst (λ (names : List (List ℕ)). Contains names name) names (Contains-append_left found.names (found.rec ∷ []) name (named k d below)))

pub write_rip-requires-clause-free : goal.write_rip-requires-clause-free
write_rip-requires-clause-free c =
    let sectors = c.args.shape in
    let disc = c.args.disc.now in
    let rip = c.args.rip.now in
    let stands : c.store_wav.new.shelf.files ≡ trial_files sectors disc rip = with_rip sectors disc rip _ _ c.requires.registered c.in_ok-store_wav.ensures in
    let read : c.compare.new.shelf.files ≡ c.store_wav.new.shelf.files = cc (c.compare.ensures.only.same) in
    let picked : c.mend_of.new.shelf.files ≡ c.compare.new.shelf.files = cc (c.mend_of.ensures.only.same) in
    ap (λ (f : Files). get f (codes "out.wav")) (picked ∙ read ∙ stands) ∙ out_absent sectors disc c.requires.range c.requires.disc_whole rip

pub returns-in-Ok : goal.returns-in-Ok
returns-in-Ok c =
    let sectors = c.args.shape in
    let disc = c.args.disc.now in
    let rip = c.args.rip.now in
    let words : AreWords disc = All-from_get_or (λ w. w < 2 ^ 16) disc 0 (λ i _. search (rules, c.type_inv.disc i)) in
    let files = c.store_wav.new.shelf.files in
    let now = c.compare.new.shelf.files in
    let fixes = c.in-Ok.picked.fixes.items in
    let found = c.in_ok-image.field-0 in
    let stands : files ≡ trial_files sectors disc rip = with_rip sectors disc rip _ files c.requires.registered c.in_ok-store_wav.ensures in
    let read = went c.compare.result c.map_err.result found _ c.in_ok-image.was c.map_err.ensures.cases c.map_err.ensures.variant in
    let own : compared (codes "rip.wav") (codes "disc.rpar") files ≡ Ok (both_of files found) = rw read at c.compare.ensures.answer in
    let kept : now ≡ files = cc (c.compare.ensures.only.same) in
    let picked : c.mend_of.new.shelf.files ≡ now = cc (c.mend_of.ensures.only.same) in
    let known : known_of now found ≡ known_rip sectors disc rip = ap (λ (f : Files). known_of f found) kept
    ∙ same_known sectors disc c.requires.range c.requires.disc_whole rip words c.requires.rip_whole files found stands own in
    mended_well sectors disc c.requires.range c.requires.disc_whole rip words c.requires.rip_whole (known_of now found) c.in-Ok.picked.at fixes c.write_rip.new.shelf.files known
    c.in-Ok.ensures.picks c.in-Ok.ensures.fixes
    (c.in_ok-write_rip-in-Ok.ensures
    ∙ ap (λ (f : Files). after_put (part_of (codes "out.wav")) (codes "out.wav") (wav_bytes (patched fixes (joined_words found.image f))) f) picked
    ∙ ap (λ (f : Files). after_put (part_of (codes "out.wav")) (codes "out.wav") (wav_bytes (patched fixes (joined_words found.image now))) f) (kept ∙ stands))

pub returns-in-Err-Refused : goal.returns-in-Err-Refused
returns-in-Err-Refused c =
    let sectors = c.args.shape in
    let disc = c.args.disc.now in
    let rip = c.args.rip.now in
    let words : AreWords disc = All-from_get_or (λ w. w < 2 ^ 16) disc 0 (λ i _. search (rules, c.type_inv.disc i)) in
    let files = c.store_wav.new.shelf.files in
    let now = c.compare.new.shelf.files in
    let found = c.in_ok-image.field-0 in
    let stands : files ≡ trial_files sectors disc rip = with_rip sectors disc rip _ files c.requires.registered c.in_ok-store_wav.ensures in
    let read = went c.compare.result c.map_err.result found _ c.in_ok-image.was c.map_err.ensures.cases c.map_err.ensures.variant in
    let own : compared (codes "rip.wav") (codes "disc.rpar") files ≡ Ok (both_of files found) = rw read at c.compare.ensures.answer in
    let kept : now ≡ files = cc (c.compare.ensures.only.same) in
    let known : known_of now found ≡ known_rip sectors disc rip = ap (λ (f : Files). known_of f found) kept
    ∙ same_known sectors disc c.requires.range c.requires.disc_whole rip words c.requires.rip_whole files found stands own in
    subst (λ (s : Status). IsMendedTrial sectors disc rip (Err s) c.mend_of.new.shelf.files) (sym c.in-Err-Refused.status-is)
    (mended_not sectors disc c.requires.range c.requires.disc_whole rip words c.requires.rip_whole (known_of now found) c.in-Err-Refused.status c.mend_of.new.shelf.files known (rw c.in-Err-Refused.field-0-is at c.in-Err-Refused.ensures.picks))
