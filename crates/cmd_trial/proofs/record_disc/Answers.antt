use Rattle.std.proofs.Common.{◌≡◌, ◌∙◌, ℕ, List, Ok, ap, subst, sym}
use Rattle.std.specs.Prelude.{IfOk, codes}
use Rattle.rip_outside.specs.Files.{Files}
use Rattle.disc_toc.specs.Toc.{Toc, toc_of}
use Rattle.disc_toc.specs.OneTrack.{one_track_of}
use Rattle.image_mender.specs.Joined.{joined_words}
use Rattle.parity_store.specs.Record.{parity_count, parity_rows}
use Rattle.rip_inputs.specs.Opening.{Opened}
use Rattle.rip_inputs.specs.declared.rip.Rip.{Rip}
use Rattle.rip_inputs.specs.Telling.{opened_of}
use Rattle.engine_steps.specs.Steps.{measured}
use Rattle.cmd_trial.specs.TrialFiles.{IsAlone}
use Rattle.cmd_trial.proofs.QuietLaws.{opens_or_wants, record_same, went}
use Rattle.cmd_trial.proofs.TrialLaws.{disc_measured, sole_rip}
use Rattle.cmd_trial.proofs.record_disc.Goals as goal

-- what is read of the disc alone
alone_measured : (sectors : ℕ) (disc : List ℕ) (files : Files) → IsAlone sectors disc files → measured (codes "disc.wav") files ≡ Ok (sole_rip (codes "disc.wav") sectors disc)
alone_measured sectors disc files alone =
    let M : Files → Type 0 = λ held. measured (codes "disc.wav") held ≡ Ok (sole_rip (codes "disc.wav") sectors disc) in
    subst M (sym alone.2) (disc_measured sectors disc alone.0 alone.1)

pub map_err-requires : goal.map_err-requires
map_err-requires c e is =
    let files = c.args.shelf.now.files in
    let alone = c.requires.alone in
    opens_or_wants (λ (found : Rip × ℕ). opened_of found.0 files) (measured (codes "disc.wav") files) (sole_rip (codes "disc.wav") alone.0 alone.1) e
    (alone_measured alone.0 alone.1 files alone.2) (rw is at c.open_measured.ensures.answer) (rw is at c.open_measured.ensures.cause)

pub returns-clause-record : goal.returns-clause-record
returns-clause-record c sectors disc alone =
    let files = c.args.shelf.now.files in
    let rip = c.in_ok-rip.rip in
    let read = went c.open_measured.result c.map_err.result (rip, c.in_ok-rip.shape) _ c.in_ok-rip.was c.map_err.ensures.cases c.map_err.ensures.variant in
    let opens : measured (codes "disc.wav") files ≡ Ok (opened_of rip files) = rw read at c.open_measured.ensures.answer in
    let same : opened_of rip files ≡ sole_rip (codes "disc.wav") sectors disc =
    (let both : Ok (opened_of rip files) ≡ Ok (sole_rip (codes "disc.wav") sectors disc) = sym opens ∙ alone_measured sectors disc files alone in cc (both)) in
    let layout : toc_of rip.layout ≡ one_track_of sectors = ap (λ (o : Opened). o.toc) same in
    let long : c.in_ok-rip.shape ≡ rip.layout.sectors = rw read at c.open_measured.ensures.shape in
    let shape : c.in_ok-rip.shape ≡ sectors = long ∙ ap (λ (t : Toc). t.sectors) layout in
    let held : c.open_measured.new.shelf.files ≡ files = cc (c.open_measured.ensures.only.same) in
    let words : joined_words rip.image c.open_measured.new.shelf.files ≡ disc = ap (joined_words rip.image) held ∙ ap (λ (o : Opened). o.words) same in
    let summed = went c.parity_and_seal.result c.map_err-2.result (c.in_ok-parity.parity, c.in_ok-parity.seal) _ c.in_ok-parity.was c.map_err-2.ensures.cases c.map_err-2.ensures.variant in
    subst (λ (b : List ℕ). IfOk c.record_bytes.result (λ bytes. bytes.items ≡ b))
    (record_same sectors disc alone.0 alone.1 (toc_of rip.layout) (joined_words rip.image c.open_measured.new.shelf.files) c.in_ok-rip.shape (parity_count c.in_ok-parity.parity) (parity_rows c.in_ok-parity.parity) c.in_ok-parity.seal
    layout words shape (rw summed at c.parity_and_seal.ensures.size) (rw summed at c.parity_and_seal.ensures.parity) (rw summed at c.parity_and_seal.ensures.seal))
    c.record_bytes.ensures
