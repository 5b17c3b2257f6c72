-- What stands after WAV files were written, and then a sheet.
use Rattle.std.proofs.Common.{◌≡◌, ◌≢◌, ◌∙◌, ℕ, zero, suc, List, [], ◌∷◌, ◌++◌, length, length-append, get_or, Option, Some, Ok, refl, sym, ap, arith}
use Rattle.std.specs.Prelude.{All, AllPairs, codes}
use Rattle.std.specs.FinMap.{get, remove}
use Rattle.std.proofs.lemmas.List.Elements.{All-head, All-tail}
use Rattle.rip_outside.specs.Files.{Files, after_put}
use Rattle.rip_outside.specs.Outputs.{after_outputs, part_of}
use Rattle.rip_outside.proofs.FilesLaws.{get-insert_same}
use Rattle.wav_frames.specs.Opening.{IsPlain}
use Rattle.wav_frames.specs.Wav.{wav_bytes}
use Rattle.wav_frames.proofs.ReadingLaws.{wav_reading-plain, wav_words-plain}
use Rattle.rip_inputs.specs.Opening.{wav_opened, wavs_opened}
use Rattle.track_split.specs.Tracks.{files_named}
use Rattle.track_split.proofs.NameLaws.{IsAbout}
use Rattle.rip_outside.proofs.OutputLaws.{put_other}

-- one name isn't that of a later output, nor of its part
abbrev pub IsApart : List ℕ → List ℕ → Type 0
IsApart earlier later = (earlier ≢ part_of later) × (earlier ≢ later)

-- later outputs leave a name that is apart from all of them
later_keep : (names words : List (List ℕ)) (sheet name : List ℕ) (files : Files) → All (IsApart name) names → get (after_outputs (files_named names words sheet) files) name ≡ get files name
later_keep [] words sheet name files apart = refl
later_keep (out ∷ names) [] sheet name files apart =
    let first = All-head (IsApart name) out names apart in
    put_other (part_of out) out sheet name files first.0 first.1
later_keep (out ∷ names) (w ∷ words) sheet name files apart =
    let first = All-head (IsApart name) out names apart in
    later_keep names words sheet name (after_put (part_of out) out (wav_bytes w) files) (All-tail (IsApart name) out names apart)
    ∙ put_other (part_of out) out (wav_bytes w) name files first.0 first.1

pairs_tail : (first : List ℕ) (names : List (List ℕ)) → AllPairs IsApart (first ∷ names) → AllPairs IsApart names
pairs_tail first names pairs i j d low below = pairs (suc i) (suc j) d (omega arith) (omega arith)

pairs_head : (first : List ℕ) (names : List (List ℕ)) → AllPairs IsApart (first ∷ names) → All (IsApart first) names
pairs_head first names pairs k d below = pairs zero (suc k) d (omega arith) (omega arith)

plain_opened : (name words : List ℕ) (held : Option (List ℕ)) → held ≡ Some (wav_bytes words) → IsPlain words (wav_bytes words) → wav_opened name held ≡ Ok words
unfolding wav_opened
plain_opened name words held is plain = rw (is, wav_reading-plain words (wav_bytes words) plain) (ap Ok (wav_words-plain words (wav_bytes words) plain))

-- the words of the WAV files are read as they were written
pub wavs_stand : (names words : List (List ℕ)) (last sheet : List ℕ) (files : Files) → length names ≡ length words → AllPairs IsApart (names ++ last ∷ []) → All (λ w. IsPlain w (wav_bytes w)) words
    → wavs_opened names (after_outputs (files_named (names ++ last ∷ []) words sheet) files) ≡ Ok words
unfolding wavs_opened
wavs_stand [] [] last sheet files size pairs plain = refl
wavs_stand [] (w ∷ words) last sheet files size pairs plain = absurd (omega arith)
wavs_stand (name ∷ names) [] last sheet files size pairs plain = absurd (omega arith)
wavs_stand (name ∷ names) (w ∷ words) last sheet files size pairs plain =
    let put : Files = after_put (part_of name) name (wav_bytes w) files in
    let stands : get (after_outputs (files_named (names ++ last ∷ []) words sheet) put) name ≡ Some (wav_bytes w) =
    later_keep (names ++ last ∷ []) words sheet name put (pairs_head name (names ++ last ∷ []) pairs) ∙ get-insert_same (remove files (part_of name)) name (wav_bytes w) in
    let here = plain_opened name w _ stands (All-head (λ w. IsPlain w (wav_bytes w)) w words plain) in
    let rest = wavs_stand names words last sheet put (omega arith) (pairs_tail name (names ++ last ∷ []) pairs) (All-tail (λ w. IsPlain w (wav_bytes w)) w words plain) in
    rw (here, rest) refl

-- and the sheet stands behind them
pub sheet_stands : (names words : List (List ℕ)) (last sheet : List ℕ) (files : Files) → length names ≡ length words
    → get (after_outputs (files_named (names ++ last ∷ []) words sheet) files) last ≡ Some sheet
sheet_stands [] [] last sheet files size = get-insert_same (remove files (part_of last)) last sheet
sheet_stands [] (w ∷ words) last sheet files size = absurd (omega arith)
sheet_stands (name ∷ names) [] last sheet files size = absurd (omega arith)
sheet_stands (name ∷ names) (w ∷ words) last sheet files size = sheet_stands names words last sheet (after_put (part_of name) name (wav_bytes w) files) (omega arith)

-- ---- names that are apart

pub names_apart : (names : List (List ℕ)) (least : ℕ) → All (IsAbout least) names → AllPairs (λ earlier later. later ≢ earlier) names → AllPairs IsApart names
names_apart names least about distinct i j d low below =
    let one = about i d (omega arith) in
    let two = about j d below in
    let long = length-append (get_or names j d) (codes ".part") in
    ((λ same. omega (arith, ap length same)), λ same. distinct i j d low below (sym same))
