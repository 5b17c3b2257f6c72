use Rattle.std.proofs.Common.{◌≡◌, vec_len}
use Rattle.decoding_cases.proofs.images.one_word.Given as goal

abbrev pub invariant-loop-i : goal.invariant-loop-i
invariant-loop-i l = vec_len l.words ≡ l.i
