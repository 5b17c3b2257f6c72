-- A seal is 32 bytes.
use Rattle.std.proofs.Common.{ℕ, zero, suc, ◌<◌, List, arith}
use Rattle.std.specs.Int.{w32, to_be_bytes}
use Rattle.std.specs.Prelude.{slice_index}
use Rattle.std.proofs.lemmas.List.Elements.{All-append, All-nil}
use Rattle.sha2.specs.Sha256.{digest_bytes, sha256}
use Rattle.rip_outside.specs.Files.{AreBytes}
use Rattle.image_mender.specs.Seal.{seal_of_words}

-- each byte of a word fits
AreBytes-word : (word : ℕ) → AreBytes (to_be_bytes w32 word)
AreBytes-word word zero d below = omega arith
AreBytes-word word (suc zero) d below = omega arith
AreBytes-word word (suc (suc zero)) d below = omega arith
AreBytes-word word (suc (suc (suc zero))) d below = omega arith
AreBytes-word word (suc (suc (suc (suc k)))) d below = absurd (omega arith)

AreBytes-digest : (hash : List ℕ) (n : ℕ) → AreBytes (digest_bytes hash n)
unfolding digest_bytes
AreBytes-digest hash zero = All-nil (λ byte. byte < 256)
AreBytes-digest hash (suc n) = All-append (λ byte. byte < 256) (digest_bytes hash n) (to_be_bytes w32 (slice_index hash n)) (AreBytes-digest hash n) (AreBytes-word (slice_index hash n))

pub AreBytes-seal : (words : List ℕ) → AreBytes (seal_of_words words)
unfolding sha256
AreBytes-seal words = AreBytes-digest _ 8
