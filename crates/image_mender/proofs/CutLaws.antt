-- A run of the words of joined parts.
use Rattle.std.proofs.Common.{◌≡◌, ◌∙◌, ℕ, zero, suc, ◌+◌, ◌-◌, ◌*◌, ◌≤◌, min, List, [], ◌∷◌, ◌++◌, length, take, drop, append-nil, refl, sym, ap, ap₂, arith}
use Rattle.std.specs.Prelude.{All, Contains, slice_range}
use Rattle.std.proofs.lemmas.List.{drop-drop, drop-take, take-take}
use Rattle.std.proofs.Math.ListN.{drop_of_length-le}
use Rattle.std.proofs.lemmas.List.Elements.{All-cons, All-head, All-tail}
use Rattle.std.proofs.lemmas.List.Sums.{sum_by-cons}
use Rattle.rip_outside.specs.Files.{Files, bytes_at}
use Rattle.wav_frames.specs.Wav.{words_of}
use Rattle.wav_frames.proofs.WordLaws.{words_of-drop}
use Rattle.image_mender.specs.declared.image.Part.{Part}
use Rattle.image_mender.specs.Joined.{AreInFiles, EndsInRange, IsInFile, joined_words, part_words, word_count}
use Rattle.image_mender.proofs.JoinLaws.{length-part_words, window}

-- how many of a part's words come before the run, and how many are in it
abbrev pub words_before : ℕ → Part → ℕ
words_before skip part = min skip part.words

abbrev pub words_cut : ℕ → ℕ → Part → ℕ
words_cut skip left part = min (part.words - words_before skip part) left

abbrev pub cut_part : ℕ → ℕ → Part → Part
cut_part skip left part = record { name = part.name; data_at = part.data_at + 2 * words_before skip part; words = words_cut skip left part }

-- the parts of a run of words
abbrev pub cut_parts : ℕ → ℕ → List Part → List Part
cut_parts skip left [] = []
cut_parts skip left (part ∷ parts) = cut_part skip left part ∷ cut_parts (skip - words_before skip part) (left - words_cut skip left part) parts

part_cut : (skip left : ℕ) (part : Part) (files : Files) → part_words (cut_part skip left part) files ≡ take (words_cut skip left part) (drop (words_before skip part) (part_words part files))
part_cut skip left part files =
    let from = words_before skip part in
    let count = words_cut skip left part in
    let bytes : List ℕ = bytes_at part.name files in
    let words : List ℕ = words_of (drop part.data_at bytes) in
    let whole : from + (part.words - from) ≡ part.words = omega arith in
    let inner : drop from (take part.words words) ≡ take (part.words - from) (drop from words) = ap (λ n. drop from (take n words)) (sym whole) ∙ drop-take from (part.words - from) words in
    ap (take count) (ap words_of (sym (drop-drop (2 * from) part.data_at bytes)) ∙ words_of-drop from (drop part.data_at bytes))
    ∙ sym (ap (take count) inner ∙ take-take count (part.words - from) (drop from words) (omega arith))

-- the words of the run
pub joined_cut : (skip left : ℕ) (parts : List Part) (files : Files) → AreInFiles parts files → joined_words (cut_parts skip left parts) files ≡ take left (drop skip (joined_words parts files))
joined_cut zero zero [] files inside = refl
joined_cut zero (suc left) [] files inside = refl
joined_cut (suc skip) zero [] files inside = refl
joined_cut (suc skip) (suc left) [] files inside = refl
joined_cut skip left (part ∷ parts) files inside =
    let first : IsInFile part files = All-head (λ p. IsInFile p files) part parts inside in
    let later : AreInFiles parts files = All-tail (λ p. IsInFile p files) part parts inside in
    ap₂ (λ x y. x ++ y) (part_cut skip left part files) (joined_cut (skip - words_before skip part) (left - words_cut skip left part) parts files later)
    ∙ sym (window skip left (words_before skip part) (words_cut skip left part) part.words (part_words part files) (joined_words parts files) (sym (length-part_words part files first)) refl refl)

pub run_words : (from words : ℕ) (parts : List Part) (files : Files) → AreInFiles parts files → joined_words (cut_parts from words parts) files ≡ slice_range (joined_words parts files) from (from + words)
run_words from words parts files inside =
    let size : from + words - from ≡ words = omega arith in
    joined_cut from words parts files inside ∙ ap (λ n. take n (drop from (joined_words parts files))) (sym size)

-- they are in the same files
pub cut_inside : (skip left : ℕ) (parts : List Part) (files : Files) → AreInFiles parts files → AreInFiles (cut_parts skip left parts) files
cut_inside skip left [] files inside = inside
cut_inside skip left (part ∷ parts) files inside =
    let first : IsInFile part files = All-head (λ p. IsInFile p files) part parts inside in
    All-cons (λ p. IsInFile p files) (cut_part skip left part) _ (omega (arith, first))
    (cut_inside (skip - words_before skip part) (left - words_cut skip left part) parts files (All-tail (λ p. IsInFile p files) part parts inside))

pub cut_ends : (skip left : ℕ) (parts : List Part) → All EndsInRange parts → All EndsInRange (cut_parts skip left parts)
cut_ends skip left [] ends = ends
cut_ends skip left (part ∷ parts) ends =
    let first : EndsInRange part = All-head EndsInRange part parts ends in
    All-cons EndsInRange (cut_part skip left part) _ (omega (arith, first))
    (cut_ends (skip - words_before skip part) (left - words_cut skip left part) parts (All-tail EndsInRange part parts ends))

pub cut_named : (names : List (List ℕ)) (skip left : ℕ) (parts : List Part) → All (λ (p : Part). Contains names p.name) parts → All (λ (p : Part). Contains names p.name) (cut_parts skip left parts)
cut_named names skip left [] named = named
cut_named names skip left (part ∷ parts) named =
    All-cons (λ (p : Part). Contains names p.name) (cut_part skip left part) _ (All-head (λ (p : Part). Contains names p.name) part parts named)
    (cut_named names (skip - words_before skip part) (left - words_cut skip left part) parts (All-tail (λ (p : Part). Contains names p.name) part parts named))

-- all of them are there
pub cut_count : (skip left : ℕ) (parts : List Part) → skip + left ≤ word_count parts → word_count (cut_parts skip left parts) ≡ left
cut_count skip left [] within = omega arith
cut_count skip left (part ∷ parts) within =
    let here = sum_by-cons (λ (p : Part). p.words) part parts in
    let there = sum_by-cons (λ (p : Part). p.words) (cut_part skip left part) (cut_parts (skip - words_before skip part) (left - words_cut skip left part) parts) in
    let rest = cut_count (skip - words_before skip part) (left - words_cut skip left part) parts (omega (arith, here)) in
    omega (arith, there, rest)

-- at the end of the parts
pub all_cut : (from words skip left i : ℕ) (parts done : List Part) → length parts ≤ i → done ++ cut_parts skip left (drop i parts) ≡ cut_parts from words parts → done ≡ cut_parts from words parts
all_cut from words skip left i parts done end so_far =
    sym (append-nil done) ∙ sym (ap (λ ps. done ++ cut_parts skip left ps) (drop_of_length-le parts end)) ∙ so_far
