use Rattle.std.proofs.Common.{◌≡◌, ◌∙◌, ◌<◌, ◌^◌, ◌++◌, true, false, rules, refl, sym, ap, subst}
use Rattle.std.proofs.lemmas.List.Elements.{All-from_get_or}
use Rattle.sha2.specs.Hashers.{Holds256}
use Rattle.wav_frames.specs.Wav.{bytes_of}
use Rattle.wav_frames.proofs.WordLaws.{bytes_of-append, bytes_of-written}
use Rattle.image_mender.specs.declared.sealing.Sealer.{Sealer}
use Rattle.image_mender.specs.Seal.{Seals}
use Rattle.image_mender.proofs.RunLaws.{front_more}
use Rattle.image_mender.proofs.sealing.Sealer.absorb.Goals as goal

pub returns : goal.returns
returns c y seals =
    let same : c.count.new.self ≡ c.args.self.now = c.if-count.ensures.other refl in
    let s = c.flush.ensures.seals y (subst (λ (sealer : Sealer). Seals sealer y) (sym same) seals) in
    let bytes : c.write_u16_into.new.dst ≡ bytes_of c.args.words.now = c.write_u16_into.ensures ∙ bytes_of-written c.args.words.now (All-from_get_or (λ w. w < 2 ^ 16) c.args.words.now 0 (λ i _. search (rules, c.type_inv.words i))) in
    record {
      front = s.front ++ c.args.words.now;
      whole = front_more s.front y c.args.words.now _ _ c.flush.ensures.none s.whole;
      hashed = subst (Holds256 c.update.new.self) (ap (λ more. bytes_of s.front ++ more) bytes ∙ sym (bytes_of-append s.front c.args.words.now)) (c.update.ensures (bytes_of s.front) s.hashed);
      alone = λ is. (let clash : false ≡ true = sym c.flush.ensures.hashed ∙ is in cc);
    }
