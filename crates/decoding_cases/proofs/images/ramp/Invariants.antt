use Rattle.std.proofs.Common.{◌≡◌, ◌*◌, vec_len}
use Rattle.decoding_cases.proofs.images.ramp.Given as goal

abbrev pub invariant-loop-n : goal.invariant-loop-n
invariant-loop-n l = vec_len l.words ≡ 2 * l.n
