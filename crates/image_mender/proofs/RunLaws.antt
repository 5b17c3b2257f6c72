-- Words that end in a run of one word, which isn't hashed yet.
use Rattle.std.proofs.Common.{◌≡◌, ◌⊎◌, ◌∙◌, ℕ, ◌+◌, ◌-◌, ◌^◌, ◌<◌, ◌≤◌, take, List, [], ◌++◌, length, replicate, IsTrue, inl, inr, sym, ap, arith, append-nil, append_assoc}
use Rattle.std.specs.List.{flat_map}
use Rattle.std.proofs.lemmas.List.{replicate-append-replicate, take-replicate}
use Rattle.std.proofs.lemmas.List.Elements.{All-replicate}
use Rattle.byteorder.specs.Endian.{little_bytes}
use Rattle.wav_frames.specs.Wav.{bytes_of}
use Rattle.wav_frames.proofs.WordLaws.{bytes_of-written}
use Rattle.image_mender.specs.declared.sealing.Sealer.{Sealer}
use Rattle.image_mender.specs.Seal.{Seals}

-- where nothing was hashed, the run is all
pub run_alone : (sealer : Sealer) (y : List ℕ) → Seals sealer y → IsTrue sealer.is_run → y ≡ replicate sealer.behind sealer.word
run_alone sealer y seals is = seals.whole ∙ ap (λ front. front ++ replicate sealer.behind sealer.word) (seals.alone is)

-- a run has any word, where it is empty
same_run : (n old word : ℕ) → (n ≡ 0) ⊎ (word ≡ old) → replicate n old ≡ replicate n word
same_run n old word (inl none) = ap (λ k. replicate k old) none ∙ sym (ap (λ k. replicate k word) none)
same_run n old word (inr same) = ap (λ w. replicate n w) (sym same)

-- the run goes on with more of its word
pub run_more : (front y words : List ℕ) (n old word behind : ℕ) → y ≡ front ++ replicate n old → (n ≡ 0) ⊎ (word ≡ old) → words ≡ replicate (length words) word → behind ≡ n + length words
    → y ++ words ≡ front ++ replicate behind word
run_more front y words n old word behind whole goes all count =
    ap (λ xs. xs ++ words) (whole ∙ ap (λ run. front ++ run) (same_run n old word goes))
    ∙ append_assoc front (replicate n word) words
    ∙ ap (λ run. front ++ run) (ap (λ more. replicate n word ++ more) all ∙ replicate-append-replicate n (length words) word ∙ ap (λ k. replicate k word) (sym count))

-- the first words of the run join the front
pub run_less : (front y : List ℕ) (n k word : ℕ) → k ≤ n → y ≡ front ++ replicate n word → y ≡ (front ++ replicate k word) ++ replicate (n - k) word
run_less front y n k word within whole =
    let both : k + (n - k) ≡ n = omega arith in
    whole ∙ ap (λ m. front ++ replicate m word) (sym both) ∙ ap (λ run. front ++ run) (sym (replicate-append-replicate k (n - k) word)) ∙ sym (append_assoc front (replicate k word) (replicate (n - k) word))

-- no run is left
pub no_run : (front y : List ℕ) (n word : ℕ) → n ≡ 0 → y ≡ front ++ replicate n word → y ≡ front ++ []
no_run front y n word none whole = whole ∙ ap (λ k. front ++ replicate k word) none

-- the bytes that are written of a run
pub run_written : (count word : ℕ) → count ≤ 512 → word < 2 ^ 16 → flat_map (little_bytes 2) (take count (replicate 512 word)) ≡ bytes_of (replicate count word)
run_written count word few fits =
    let same : take count (replicate 512 word) ≡ replicate count word = take-replicate count 512 word few in
    ap (flat_map (little_bytes 2)) same ∙ bytes_of-written (replicate count word) (All-replicate (λ w. w < 2 ^ 16) count word fits)

-- where no run is left, words join the front
pub front_more : (front y words : List ℕ) (n word : ℕ) → n ≡ 0 → y ≡ front ++ replicate n word → y ++ words ≡ (front ++ words) ++ replicate n word
front_more front y words n word none whole =
    ap (λ xs. xs ++ words) (no_run front y n word none whole ∙ append-nil front) ∙ sym (ap (λ k. (front ++ words) ++ replicate k word) none ∙ append-nil (front ++ words))
