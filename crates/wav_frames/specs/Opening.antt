-- What a call tells that looks where the words of a file stand.
use Rattle.std.specs.Prelude.{◌≡◌, ℕ, ◌+◌, ◌*◌, ◌-◌, ◌%◌, ◌^◌, ◌≤◌, List, length, take, drop, Option, None, IsSomeAnd, IfSome, Result, Ok, Err}
use Rattle.rip_outside.specs.declared.fault.ShelfCall.{ShelfCall}
use Rattle.rip_outside.specs.Causes.{Rose, IsReadCall}
use Rattle.rip_outside.specs.Files.{Files, bytes_at}
use Rattle.wav_frames.specs.declared.fail.WavAt.{WavAt}
use Rattle.wav_frames.specs.declared.fail.WavFail.{WavFail}
use Rattle.wav_frames.specs.declared.fail.WavFail.TheVariants.{Missing, Refused, ReadFault}
use Rattle.wav_frames.specs.Wav.{words_of, wav_bytes}
use Rattle.wav_frames.specs.Chunks.{Refusal, wav_refused, wav_reading}

-- a file that is these words and nothing else: whole stereo samples, no more than a disc has
pub record IsPlain (words bytes : List ℕ) : Type 0 where
  pub file : bytes ≡ wav_bytes words
  pub even : length words % 2 ≡ 0
  pub few : length words ≤ 523908000

-- the words that a file has where they stand
abbrev pub wav_words : List ℕ → WavAt → List ℕ
wav_words bytes at = take at.words (words_of (drop at.data_at bytes))

-- whole stereo samples that end where a file may end
pub record AreWholeSamples (at : WavAt) : Type 0 where
  pub even : at.words % 2 ≡ 0
  pub few : at.words ≤ 2147483647
  pub ends : at.data_at + 2 * at.words ≤ 2 ^ 64 - 1

-- exactly what the file's bytes are read as, or that there is no file
abbrev pub OpensWav : Result WavAt WavFail → Option (List ℕ) → Type 0
OpensWav (Ok at) file = IsSomeAnd file (λ bytes. wav_reading bytes ≡ Ok at)
OpensWav (Err (Refused kind at)) file = IsSomeAnd file (λ bytes. wav_reading bytes ≡ wav_refused kind at)
OpensWav (Err Missing) file = file ≡ None
OpensWav (Err (ReadFault call)) file = Unit {0}

-- exactly what a part of a file is read as
abbrev pub Tells : {T : Type 0} → Result T WavFail → Result T Refusal → Type 0
Tells (Ok found) reading = reading ≡ Ok found
Tells (Err (Refused kind at)) reading = reading ≡ wav_refused kind at
Tells (Err Missing) reading = ⊥
Tells (Err (ReadFault call)) reading = Unit {0}

-- a fault is of a reading call whose count rose
abbrev pub ReadingHasCause : {T : Type 0} → (ShelfCall → ℕ) → (ShelfCall → ℕ) → Result T WavFail → Type 0
ReadingHasCause before now (Err (ReadFault call)) = IsReadCall call × Rose (before call) (now call)
ReadingHasCause before now result = Unit {0}

-- no call has failed
abbrev pub NoFault : {T : Type 0} → Result T WavFail → Type 0
NoFault (Err (ReadFault call)) = ⊥
NoFault result = Unit {0}

-- but for a fault, at most so many bytes are handed out
abbrev pub TakesAtMost : {T : Type 0} → ℕ → Result T WavFail → ℕ → ℕ → Type 0
TakesAtMost most (Err (ReadFault call)) before now = before ≤ now
TakesAtMost most result before now = (before ≤ now) × (now ≤ before + most)

-- but for a fault, at most the file's length is handed out
abbrev pub TakesWithinFile : Option Files → List ℕ → Result WavAt WavFail → ℕ → ℕ → Type 0
TakesWithinFile held name (Err (ReadFault call)) before now = before ≤ now
TakesWithinFile held name result before now = (before ≤ now) × IfSome held (λ files. now ≤ before + length (bytes_at name files))
