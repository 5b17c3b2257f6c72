use Rattle.std.proofs.Common.{◌≡◌, ◌∙◌, ◌+◌, ap, length, sym, Ok}
use Rattle.std.specs.Prelude.{slice_range}
use Rattle.rip_outside.specs.Files.{Files}
use Rattle.image_mender.specs.Joined.{joined_words, word_count}
use Rattle.image_mender.proofs.JoinLaws.{length-joined_words}
use Rattle.rip_inputs.specs.Opening.{Opened}
use Rattle.rip_inputs.specs.Telling.{opened_of}
use Rattle.rip_inputs.specs.declared.rip.Rip.{Rip}
use Rattle.engine_steps.specs.Steps.{opened}
use Rattle.engine_steps.proofs.PieceLaws.{all_read, written_over}
use Rattle.cmd_trial.proofs.QuietLaws.{opens_or_wants}
use Rattle.cmd_trial.proofs.read_rip.Goals as goal

pub returns-in-Ok-read : goal.returns-in-Ok-read
returns-in-Ok-read c = λ rip is.
    let image = c.in-Ok.rip.image in
    let buf = c.read.new.buf in
    let old : Files = c.args.shelf.now.files in
    let held : c.open_input.new.shelf.files ≡ old = cc (c.in-Ok.ensures.only.same) in
    let same : Ok rip ≡ Ok (opened_of c.in-Ok.rip old) = sym is ∙ c.in-Ok.ensures.answer in
    let one : rip ≡ opened_of c.in-Ok.rip old = cc (same) in
    let count : length c.deref_mut.result.now ≡ word_count image = c.deref_mut.ensures.len ∙ c.in_ok-words-in-Ok.ensures ∙ c.words.ensures.count in
    let long : length (joined_words image old) ≡ word_count image = length-joined_words image old c.in-Ok.ensures.inside in
    let piece = c.in-Ok-read.ensures.words ∙ ap (λ (files : Files). slice_range (joined_words image files) 0 (0 + length c.deref_mut.result.now)) held in
    let all : buf ≡ joined_words image old = all_read (joined_words image old) buf (length c.deref_mut.result.now) (long ∙ sym count) piece in
    written_over c.in_ok-words-in-Ok.words.len buf _ (c.read.auto.buf ∙ c.deref_mut.ensures.len) ∙ all ∙ ap (λ (r : Opened). r.words) (sym one)

pub wanted-requires : goal.wanted-requires
wanted-requires c =
    opens_or_wants (λ (rip : Rip). opened_of rip c.args.shelf.now.files) (opened c.args.name.now c.args.shelf.now.files) c.requires.0 c.in-Err.stop c.requires.1 c.in-Err.ensures.answer c.in-Err.ensures.cause
