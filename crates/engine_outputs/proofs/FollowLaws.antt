-- Files that are written one after another, and what stays meanwhile of the files that are read.
use Rattle.std.proofs.Common.{◌≡◌, ◌≢◌, ◌∙◌, ℕ, zero, suc, ◌+◌, ◌*◌, ◌<◌, ◌≤◌, List, [], ◌∷◌, ◌++◌, length, take, slice_get, get_or, Option, None, Some, refl, sym, ap, ap₂, subst, inl, inr, arith}
use Rattle.std.specs.Prelude.{All, AllPairs, unwrap_or}
use Rattle.std.specs.FinMap.{get, remove}
use Rattle.std.proofs.lemmas.List.Elements.{All-cons, All-head, All-nil, All-tail}
use Rattle.rip_outside.specs.Files.{Files, after_put, bytes_at}
use Rattle.rip_outside.specs.Outputs.{Output, after_outputs, part_of}
use Rattle.rip_outside.proofs.FilesLaws.{get-insert_other, get-remove_other, get-remove_same, same_or_other}
use Rattle.rip_outside.proofs.OutputLaws.{put_other}
use Rattle.wav_frames.specs.Opening.{wav_words}
use Rattle.wav_frames.specs.Wav.{wav_bytes}
use Rattle.image_mender.specs.declared.image.Part.{Part}
use Rattle.image_mender.specs.Joined.{AreInFiles, IsInFile, joined_words, part_words}
use Rattle.track_split.specs.Tracks.{files_named}

-- ---- one file that is put under a name that wasn't held

-- a name that isn't held isn't held afterwards either
pub put_free : (part out bytes q : List ℕ) (files : Files) → q ≢ out → get files q ≡ None → get (after_put part out bytes files) q ≡ None
put_free part out bytes q files other free = get-insert_other (remove files part) out bytes q other ∙ elim (same_or_other q part) [
  | inl is ↦ rw is (get-remove_same files part)
  | inr apart ↦ get-remove_other files part q apart ∙ free
]

words_in : Part → Option (List ℕ) → List ℕ
words_in p held = wav_words (unwrap_or held []) record { data_at = p.data_at; words = p.words }

-- a part of another file stays; one of the name that is put has no words
module _ (p : Part) (part out bytes : List ℕ) (files : Files) (inside : IsInFile p files) (free : get files out ≡ None) (apart : p.name ≢ part) where
  empty_part : p.name ≡ out → p.data_at + 2 * p.words ≤ 0
  empty_part is =
      let none : get files p.name ≡ None = ap (get files) is ∙ free in
      subst (λ (held : Option (List ℕ)). p.data_at + 2 * p.words ≤ length (unwrap_or held [])) none inside

  pub put_words : part_words p (after_put part out bytes files) ≡ part_words p files
  put_words = elim (same_or_other p.name out) [
    | inl is ↦ (let empty = empty_part is in
        let none : p.words ≡ 0 = omega arith in
        ap (λ n. wav_words (bytes_at p.name (after_put part out bytes files)) record { data_at = p.data_at; words = n }) none
        ∙ sym (ap (λ n. wav_words (bytes_at p.name files) record { data_at = p.data_at; words = n }) none))
    | inr other ↦ ap (λ held. wav_words (unwrap_or held []) record { data_at = p.data_at; words = p.words }) (put_other part out bytes p.name files apart other)
  ]

  pub put_inside : IsInFile p (after_put part out bytes files)
  put_inside = elim (same_or_other p.name out) [
    | inl is ↦ (let empty = empty_part is in omega arith)
    | inr other ↦ subst (λ (held : Option (List ℕ)). p.data_at + 2 * p.words ≤ length (unwrap_or held [])) (sym (put_other part out bytes p.name files apart other)) inside
  ]

pub put_joined : (parts : List Part) (part out bytes : List ℕ) (files : Files) → AreInFiles parts files → get files out ≡ None → All (λ (p : Part). p.name ≢ part) parts
    → (joined_words parts (after_put part out bytes files) ≡ joined_words parts files) × AreInFiles parts (after_put part out bytes files)
put_joined [] part out bytes files inside free apart = (refl, All-nil (λ p. IsInFile p (after_put part out bytes files)))
put_joined (p ∷ parts) part out bytes files inside free apart =
    let first : IsInFile p files = All-head (λ p. IsInFile p files) p parts inside in
    let away : p.name ≢ part = All-head (λ (p : Part). p.name ≢ part) p parts apart in
    let rest = put_joined parts part out bytes files (All-tail (λ p. IsInFile p files) p parts inside) free (All-tail (λ (p : Part). p.name ≢ part) p parts apart) in (
      ap₂ (λ x y. x ++ y) (put_words p part out bytes files first free away) rest.0,
      All-cons (λ p. IsInFile p (after_put part out bytes files)) p parts (put_inside p part out bytes files first free away) rest.1,
    )

-- ---- several files

abbrev pub IsOtherName : List ℕ → List Output → Type 0
IsOtherName name [] = Unit {0}
IsOtherName name (out ∷ outs) = (out.name ≢ name) × IsOtherName name outs

-- no output is held, and no two have one name
abbrev pub AreFresh : List Output → Files → Type 0
AreFresh [] files = Unit {0}
AreFresh (out ∷ outs) files = (get files out.name ≡ None) × IsOtherName out.name outs × AreFresh outs files

-- no part of the image is the part of an output
abbrev pub AreApart : List Output → List Part → Type 0
AreApart [] parts = Unit {0}
AreApart (out ∷ outs) parts = All (λ (p : Part). p.name ≢ part_of out.name) parts × AreApart outs parts

fresh_put : (outs : List Output) (part name bytes : List ℕ) (files : Files) → IsOtherName name outs → AreFresh outs files → AreFresh outs (after_put part name bytes files)
fresh_put [] part name bytes files other fresh = tt
fresh_put (out ∷ outs) part name bytes files other fresh =
    (put_free part name bytes out.name files other.0 fresh.0, fresh.1, fresh_put outs part name bytes files other.1 fresh.2)

-- the next output isn't held after those before it
pub next_free : (outs : List Output) (i : ℕ) (next : Output) (files : Files) → AreFresh outs files → slice_get outs i ≡ Some next → get (after_outputs (take i outs) files) next.name ≡ None
next_free [] i next files fresh here = cc
next_free (out ∷ outs) zero next files fresh here = let same : out ≡ next = cc in subst (λ (o : Output). get files o.name ≡ None) same fresh.0
next_free (out ∷ outs) (suc i) next files fresh here =
    next_free outs i next (after_put (part_of out.name) out.name out.bytes files) (fresh_put outs (part_of out.name) out.name out.bytes files fresh.1 fresh.2) here

-- and an image has its words after them
pub words_follow : (outs : List Output) (i : ℕ) (parts : List Part) (files : Files) → AreFresh outs files → AreApart outs parts → AreInFiles parts files
    → (joined_words parts (after_outputs (take i outs) files) ≡ joined_words parts files) × AreInFiles parts (after_outputs (take i outs) files)
words_follow outs zero parts files fresh apart inside = (refl, inside)
words_follow [] (suc i) parts files fresh apart inside = (refl, inside)
words_follow (out ∷ outs) (suc i) parts files fresh apart inside =
    let one = put_joined parts (part_of out.name) out.name out.bytes files inside fresh.0 apart.0 in
    let rest = words_follow outs i parts (after_put (part_of out.name) out.name out.bytes files) (fresh_put outs (part_of out.name) out.name out.bytes files fresh.1 fresh.2) apart.1 one.1 in
    (rest.0 ∙ one.0, rest.1)

-- ---- the outputs of images and a sheet

pub named_at : (names words : List (List ℕ)) (sheet : List ℕ) (i : ℕ) → length names ≡ length words + 1 → i < length words
    → slice_get (files_named names words sheet) i ≡ Some record { name = get_or names i []; bytes = wav_bytes (get_or words i []) }
named_at [] words sheet i size below = absurd (omega arith)
named_at (name ∷ names) [] sheet i size below = absurd (omega arith)
named_at (name ∷ names) (first ∷ words) sheet zero size below = refl
named_at (name ∷ names) (first ∷ words) sheet (suc i) size below = named_at names words sheet i (omega arith) (omega arith)

pub named_last : (names words : List (List ℕ)) (sheet : List ℕ) → length names ≡ length words + 1
    → slice_get (files_named names words sheet) (length words) ≡ Some record { name = get_or names (length words) []; bytes = sheet }
named_last [] words sheet size = absurd (omega arith)
named_last (name ∷ names) [] sheet size = refl
named_last (name ∷ names) (first ∷ words) sheet size = named_last names words sheet (omega arith)

pub named_length : (names words : List (List ℕ)) (sheet : List ℕ) → length names ≡ length words + 1 → length (files_named names words sheet) ≡ length words + 1
named_length [] words sheet size = absurd (omega arith)
named_length (name ∷ names) [] sheet size = refl
named_length (name ∷ names) (first ∷ words) sheet size = let rest = named_length names words sheet (omega arith) in omega arith

named_other : (name : List ℕ) (names words : List (List ℕ)) (sheet : List ℕ) → All (λ later. later ≢ name) names → IsOtherName name (files_named names words sheet)
named_other name [] words sheet other = tt
named_other name (first ∷ names) [] sheet other = (All-head (λ later. later ≢ name) first names other, tt)
named_other name (first ∷ names) (w ∷ words) sheet other = (All-head (λ later. later ≢ name) first names other, named_other name names words sheet (All-tail (λ later. later ≢ name) first names other))

pub pairs_tail : (first : List ℕ) (names : List (List ℕ)) → AllPairs (λ earlier later. later ≢ earlier) (first ∷ names) → AllPairs (λ earlier later. later ≢ earlier) names
pairs_tail first names distinct i j d low below = distinct (suc i) (suc j) d (omega arith) (omega arith)

pub pairs_head : (first : List ℕ) (names : List (List ℕ)) → AllPairs (λ earlier later. later ≢ earlier) (first ∷ names) → All (λ later. later ≢ first) names
pairs_head first names distinct k d below = distinct zero (suc k) d (omega arith) (omega arith)

pub named_fresh : (names words : List (List ℕ)) (sheet : List ℕ) (files : Files) → AllPairs (λ earlier later. later ≢ earlier) names → All (λ out. get files out ≡ None) names → AreFresh (files_named names words sheet) files
named_fresh [] words sheet files distinct free = tt
named_fresh (name ∷ names) [] sheet files distinct free = (All-head (λ out. get files out ≡ None) name names free, tt, tt)
named_fresh (name ∷ names) (w ∷ words) sheet files distinct free = (
  All-head (λ out. get files out ≡ None) name names free,
  named_other name names words sheet (pairs_head name names distinct),
  named_fresh names words sheet files (pairs_tail name names distinct) (All-tail (λ out. get files out ≡ None) name names free),
)

pub named_apart : (names words : List (List ℕ)) (sheet : List ℕ) (parts : List Part) → All (λ name. All (λ (p : Part). p.name ≢ part_of name) parts) names → AreApart (files_named names words sheet) parts
named_apart [] words sheet parts apart = tt
named_apart (name ∷ names) [] sheet parts apart = (All-head (λ name. All (λ (p : Part). p.name ≢ part_of name) parts) name names apart, tt)
named_apart (name ∷ names) (w ∷ words) sheet parts apart =
    (All-head (λ name. All (λ (p : Part). p.name ≢ part_of name) parts) name names apart, named_apart names words sheet parts (All-tail (λ name. All (λ (p : Part). p.name ≢ part_of name) parts) name names apart))
