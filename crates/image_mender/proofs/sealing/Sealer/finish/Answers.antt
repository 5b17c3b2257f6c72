use Rattle.std.proofs.Common.{◌≡◌, ◌∙◌, [], ◌++◌, sym, ap, append-nil}
use Rattle.wav_frames.specs.Wav.{bytes_of}
use Rattle.image_mender.specs.Seal.{seal_of_words}
use Rattle.image_mender.proofs.RunLaws.{no_run}
use Rattle.image_mender.proofs.sealing.Sealer.finish.Goals as goal

pub returns : goal.returns
returns c y seals =
    let s = c.flush.ensures.seals y seals in
    let same : y ≡ s.front ++ [] = no_run s.front y _ _ c.flush.ensures.none s.whole in
    c.finalize.ensures (bytes_of s.front) s.hashed ∙ ap seal_of_words (sym (same ∙ append-nil s.front))
