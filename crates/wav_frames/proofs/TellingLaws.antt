-- What the exits of calls tell.
use Rattle.std.proofs.Common.{◌≡◌, ℕ, List}
use Rattle.std.specs.Prelude.{Result, Ok, Err}
use Rattle.wav_frames.specs.declared.fail.WavFail.{WavFail}
use Rattle.wav_frames.specs.declared.fail.WavFail.TheVariants.{Missing, Refused, ReadFault}
use Rattle.wav_frames.specs.Chunks.{Check, Refusal, passed}
use Rattle.rip_outside.specs.declared.fault.ShelfCall.{ShelfCall}
use Rattle.wav_frames.specs.Opening.{ReadingHasCause, NoFault, Tells}
use Rattle.wav_frames.proofs.CheckLaws.{passed-Err}

-- A call that failed ends the one around it with the same answer, where its refusal is that of the whole.
pub Tells-Err : {T U : Type 0} (reading : Result T Refusal) (whole : Result U Refusal) (fail : WavFail) → Tells {T = T} (Err fail) reading
    → ((refusal : Refusal) → reading ≡ Err refusal → whole ≡ Err refusal) → Tells {T = U} (Err fail) whole
Tells-Err reading whole Missing tells step = tells
Tells-Err reading whole (ReadFault call) tells step = tt
Tells-Err reading whole (Refused kind at) tells step = step _ tells

-- a piece that wasn't read tells nothing of the whole
pub Tells-fault : {T U : Type 0} (found : T) (whole : Result U Refusal) (fail : WavFail) → Tells {T = T} (Err fail) (Ok found) → Tells {T = U} (Err fail) whole
Tells-fault found whole fail tells = Tells-Err (Ok found) whole fail tells (λ refusal e. cc)

-- tests that weren't passed end what comes after them
pub Tells-passed : {T U : Type 0} (checks : List Check) (found : T) (reading : Result U Refusal) (fail : WavFail) → Tells {T = T} (Err fail) (passed checks (Ok found)) → Tells {T = U} (Err fail) (passed checks reading)
Tells-passed checks found reading fail tells = Tells-Err (passed checks (Ok found)) (passed checks reading) fail tells (λ refusal e. passed-Err checks found reading refusal e)

-- where no call has failed, no count had to rise
pub cause_from_none : {T : Type 0} (before now : ShelfCall → ℕ) (result : Result T WavFail) → NoFault result → ReadingHasCause before now result
cause_from_none before now (Ok found) none = tt
cause_from_none before now (Err Missing) none = tt
cause_from_none before now (Err (Refused kind at)) none = tt
cause_from_none before now (Err (ReadFault call)) none = absurd none
