use Rattle.std.proofs.Common.{◌≡◌, ◌∙◌, ℕ, List, Err, ap, arith, sym}
use Rattle.std.specs.FinMap.{empty, get, insert}
use Rattle.std.specs.Prelude.{codes}
use Rattle.rip_outside.specs.Files.{Files, after_put}
use Rattle.rip_outside.specs.Outputs.{part_of}
use Rattle.wav_frames.specs.Wav.{wav_bytes}
use Rattle.disc_toc.specs.OneTrack.{one_track_of}
use Rattle.engine_words.specs.Records.{record_of}
use Rattle.cmd_trial.specs.TrialFiles.{IsAlone, disc_files, registered_files}
use Rattle.cmd_trial.proofs.TrialLaws.{record_absent}
use Rattle.cmd_trial.proofs.register_disc.Goals as goal

-- the shelf on which the disc stands alone
with_disc : (disc : List ℕ) (old now : Files) → old ≡ empty → now ≡ insert old (codes "disc.wav") (wav_bytes disc) → now ≡ disc_files disc
unfolding disc_files
with_disc disc old now new added = added ∙ ap (λ (f : Files). insert f (codes "disc.wav") (wav_bytes disc)) new

pub record_disc-requires : goal.record_disc-requires
record_disc-requires c =
    let disc = c.args.disc.now in
    let alone : IsAlone c.args.shape disc c.store_wav.new.shelf.files = (c.requires.range, c.requires.whole, with_disc disc _ c.store_wav.new.shelf.files c.requires.new c.in_ok-store_wav.ensures) in
    record { alone = (c.args.shape, disc, alone) }

pub put-requires-clause-free : goal.put-requires-clause-free
put-requires-clause-free c = λ held told.
    let disc = c.args.disc.now in
    let files : c.store_wav.new.shelf.files ≡ disc_files disc = with_disc disc _ _ c.requires.new c.in_ok-store_wav.ensures in
    let same : c.record_disc.new.shelf.files ≡ held = cc (told) in
    ap (λ (f : Files). get f (codes "disc.rpar")) (sym same ∙ c.record_disc.ensures.same ∙ files) ∙ record_absent c.args.shape disc c.requires.range c.requires.whole

pub returns-in-Ok : goal.returns-in-Ok
unfolding registered_files
returns-in-Ok c =
    let disc = c.args.disc.now in
    let name = codes "disc.rpar" in
    let files : c.store_wav.new.shelf.files ≡ disc_files disc = with_disc disc _ _ c.requires.new c.in_ok-store_wav.ensures in
    let alone : IsAlone c.args.shape disc c.store_wav.new.shelf.files = (c.requires.range, c.requires.whole, files) in
    let bytes : c.in_ok-bytes.bytes.items ≡ record_of 8 (one_track_of c.args.shape) disc = c.in_ok-bytes.ensures.record c.args.shape disc alone in
    let put : c.put.new.shelf.files ≡ after_put (part_of name) name c.deref.result.now c.record_disc.new.shelf.files = (let ok = c.in-Ok.ensures.ok in cc (ok)) in
    put ∙ ap (λ (b : List ℕ). after_put (part_of name) name b c.record_disc.new.shelf.files) (c.deref.ensures.value ∙ bytes)
    ∙ ap (λ (f : Files). after_put (part_of name) name (record_of 8 (one_track_of c.args.shape) disc) f) (c.record_disc.ensures.same ∙ files)

pub unreachable-requires : goal.unreachable-requires
unreachable-requires c =
    let cause = c.in-Err-WriteFault.ensures.cause c.in-Err-WriteFault.field-0-0 (ap Err c.in-Err-WriteFault.field-0-is) in
    let rose = cause.1 in omega (arith, rose)
