use Rattle.std.proofs.Common.{◌≡◌, ◌∙◌, ◌<◌, ◌^◌, ◌++◌, ap₂, length, rules}
use Rattle.std.proofs.lemmas.List.Elements.{All-from_get_or}
use Rattle.wav_frames.specs.Wav.{bytes_of, header_of}
use Rattle.wav_frames.proofs.WordLaws.{bytes_of-written}
use Rattle.engine_steps.proofs.PieceLaws.{written_over}
use Rattle.cmd_trial.proofs.wav_of.Goals as goal

pub returns-in-Ok : goal.returns-in-Ok
returns-in-Ok c =
    let body : c.write_u16_into.new.dst ≡ bytes_of c.args.words.now = c.write_u16_into.ensures ∙ bytes_of-written c.args.words.now (All-from_get_or (λ w. w < 2 ^ 16) c.args.words.now 0 (λ i _. search (rules, c.type_inv.words i))) in
    let head : c.in_ok-bytes.bytes.items ≡ header_of (length c.args.words.now) = search rules in
    let size : length c.write_u16_into.new.dst ≡ c.in_ok-body.body.len = c.write_u16_into.auto.dst ∙ c.deref_mut.ensures.len in
    let read : c.deref.result.now ≡ c.write_u16_into.new.dst = c.deref.ensures.value ∙ written_over c.in_ok-body.body.len c.write_u16_into.new.dst _ size in
    c.in-Ok.ensures.items ∙ ap₂ (λ a b. a ++ b) head (read ∙ body)
