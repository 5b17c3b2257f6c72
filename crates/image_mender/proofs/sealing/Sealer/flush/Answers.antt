use Rattle.std.proofs.Common.{◌≡◌, ◌∙◌, ◌<◌, ◌≤◌, ◌^◌, ℕ, ◌++◌, replicate, true, false, rules, sym, ap, subst, arith}
use Rattle.sha2.specs.Hashers.{Holds256}
use Rattle.wav_frames.specs.Wav.{bytes_of}
use Rattle.wav_frames.proofs.WordLaws.{bytes_of-append}
use Rattle.image_mender.proofs.RunLaws.{run_less, run_written}
use Rattle.image_mender.proofs.sealing.Sealer.flush.Goals as goal

pub runs-preserved : goal.runs-preserved
runs-preserved c = record {
  seals = λ y from.
      let s = c.runs.invariant.seals y from in
      let count : ℕ = c.min-count.result in
      let word : ℕ = c.runs.self.word in
      let most : count ≤ 512 = omega arith in
      let within : count ≤ c.runs.self.behind = omega arith in
      let fits : c.args.self.now.word < 2 ^ 16 = search rules in
      let bytes : c.write_u16_into.new.dst ≡ bytes_of (replicate count word) = c.write_u16_into.ensures ∙ run_written count c.args.self.now.word most fits ∙ ap (λ w. bytes_of (replicate count w)) (sym c.runs.invariant.word) in
      record {
        front = s.front ++ replicate count word;
        whole = run_less s.front y c.runs.self.behind count word within s.whole;
        hashed = subst (Holds256 c.update.new.self) (ap (λ more. bytes_of s.front ++ more) bytes ∙ sym (bytes_of-append s.front (replicate count word))) (c.update.ensures (bytes_of s.front) s.hashed);
        alone = λ is. (let clash : false ≡ true = sym c.runs.invariant.alone ∙ is in cc);
      };
  word = c.runs.invariant.word;
  alone = c.runs.invariant.alone;
}
