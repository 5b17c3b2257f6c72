-- What a command comes to rests on the names that it meets alone.
use Rattle.std.proofs.Common.{◌≡◌, ◌∙◌, ℕ, Bool, true, false, cond, List, [], ◌∷◌, ◌++◌, Option, Some, Result, Ok, Err, refl, ap, ap₂}
use Rattle.std.specs.Prelude.{filter, flat_map, is_some}
use Rattle.std.specs.List.{find}
use Rattle.std.specs.Option.{option_to_list}
use Rattle.std.specs.FinMap.{get}
use Rattle.rip_outside.specs.Files.{Files}
use Rattle.cue_sheet.specs.Reading.{Sheet}
use Rattle.parity_store.specs.Naming.{record_name_of}
use Rattle.disc_toc.specs.Joined.{sole_sheet}
use Rattle.rip_inputs.specs.Opening.{Opened, behind, disc_sheet, files_of, folder_of, is_sheet, laid_out, names_read, opening_then, rip_reading, sheet_names, sheet_opened, wav_opened, wavs_opened}
use Rattle.rip_inputs.specs.declared.rip.RipFail.{RipFail}
use Rattle.rip_report.specs.declared.status.Status.{Status}
use Rattle.engine_steps.specs.Comparing.{compared_names, record_under}
use Rattle.engine_steps.specs.Outcome.{Outcome, Then}
use Rattle.engine_steps.specs.Steps.{Known, and_then, compared, first_taken, free, known_by, long_enough, measured, opened, part_read, record_found, recorded, rip_read, same_layout}

-- ---- names that hold the same

-- each of these names holds the same in both
abbrev pub SameAt : List (List ℕ) → Files → Files → Type 0
SameAt [] files others = Unit {0}
SameAt (name ∷ names) files others = (get others name ≡ get files name) × SameAt names files others

pub same_front : (names more : List (List ℕ)) (files others : Files) → SameAt (names ++ more) files others → SameAt names files others
same_front [] more files others same = tt
same_front (name ∷ names) more files others same = (same.0, same_front names more files others same.1)

pub same_back : (names more : List (List ℕ)) (files others : Files) → SameAt (names ++ more) files others → SameAt more files others
same_back [] more files others same = same
same_back (name ∷ names) more files others same = same_back names more files others same.1

-- ---- lists by what the names hold

pub filter_same : (p q : List ℕ → Bool) (names : List (List ℕ)) (files others : Files) → ((name : List ℕ) → get others name ≡ get files name → p name ≡ q name) → SameAt names files others → filter p names ≡ filter q names
filter_same p q [] files others agree same = refl
filter_same p q (name ∷ names) files others agree same =
    ap₂ (λ (b : Bool) (rest : List (List ℕ)). cond b (name ∷ rest) rest) (agree name same.0) (filter_same p q names files others agree same.1)

pub flat_map_same : (f g : List ℕ → List ℕ) (names : List (List ℕ)) (files others : Files) → ((name : List ℕ) → get others name ≡ get files name → f name ≡ g name) → SameAt names files others → flat_map f names ≡ flat_map g names
flat_map_same f g [] files others agree same = refl
flat_map_same f g (name ∷ names) files others agree same = ap₂ (λ (a b : List ℕ). a ++ b) (agree name same.0) (flat_map_same f g names files others agree same.1)

find_same : (names : List (List ℕ)) (files others : Files) → SameAt names files others → find (λ out. is_some (get others out)) names ≡ find (λ out. is_some (get files out)) names
find_same [] files others same = refl
find_same (name ∷ names) files others same = ap₂ (λ (held : Option (List ℕ)) (rest : Option (List ℕ)). cond (is_some held) (Some name) rest) same.0 (find_same names files others same.1)

pub free_same : (outs read : List (List ℕ)) (files others : Files) → SameAt outs files others → free outs read others ≡ free outs read files
free_same outs read files others same = ap (λ (taken : Option (List ℕ)). first_taken taken (part_read outs read)) (find_same outs files others same)

-- ---- the rip

-- the sheet of a rip, by what its name holds
sheet_by : List ℕ → Bool → Option (List ℕ) → Result Sheet RipFail
sheet_by input sheet held = cond sheet (opening_then (sheet_opened input held) (λ s. Ok (behind (folder_of input) s))) (Ok (sole_sheet input))

sheet_same : (input : List ℕ) (files others : Files) → SameAt (sheet_names input) files others → disc_sheet input others ≡ disc_sheet input files
unfolding disc_sheet sheet_by
sheet_same input files others same = by (is_sheet input) same
  where
    by : (sheet : Bool) → SameAt (cond sheet (input ∷ []) []) files others → sheet_by input sheet (get others input) ≡ sheet_by input sheet (get files input)
    by true same = ap (sheet_by input true) same.0
    by false same = refl

wavs_same : (names : List (List ℕ)) (files others : Files) → SameAt names files others → wavs_opened names others ≡ wavs_opened names files
unfolding wavs_opened
wavs_same [] files others same = refl
wavs_same (name ∷ names) files others same =
    ap₂ (λ (held : Option (List ℕ)) (rest : Result (List (List ℕ)) RipFail). opening_then (wav_opened name held) (λ words. opening_then rest (λ more. Ok (words ∷ more)))) same.0 (wavs_same names files others same.1)

names_same : (input : List ℕ) (files others : Files) → SameAt (sheet_names input) files others → names_read input others ≡ names_read input files
unfolding names_read
names_same input files others same = ap (λ (s : Result Sheet RipFail). sheet_names input ++ files_of s) (sheet_same input files others same)

pub rip_same : (input : List ℕ) (files others : Files) → SameAt (names_read input files) files others → rip_reading input others ≡ rip_reading input files
unfolding rip_reading names_read
rip_same input files others same =
    let front : SameAt (sheet_names input) files others = same_front (sheet_names input) (files_of (disc_sheet input files)) files others same in
    let back : SameAt (files_of (disc_sheet input files)) files others = same_back (sheet_names input) (files_of (disc_sheet input files)) files others same in
    ap₂ (λ (s : Result Sheet RipFail) (read : List (List ℕ)). opening_then s (λ sheet. opening_then (wavs_opened sheet.files others) (λ wavs. laid_out sheet wavs read)))
    (sheet_same input files others front) (names_same input files others front)
    ∙ by (disc_sheet input files) back
  where
    by : (s : Result Sheet RipFail) → SameAt (files_of s) files others
        → opening_then s (λ sheet. opening_then (wavs_opened sheet.files others) (λ wavs. laid_out sheet wavs (names_read input files)))
        ≡ opening_then s (λ sheet. opening_then (wavs_opened sheet.files files) (λ wavs. laid_out sheet wavs (names_read input files)))
    by (Ok sheet) back = ap (λ (w : Result (List (List ℕ)) RipFail). opening_then w (λ wavs. laid_out sheet wavs (names_read input files))) (wavs_same sheet.files files others back)
    by (Err fail) back = refl

pub opened_same : (input : List ℕ) (files others : Files) → SameAt (names_read input files) files others → opened input others ≡ opened input files
opened_same input files others same = ap rip_read (rip_same input files others same)

pub measured_same : (input : List ℕ) (files others : Files) → SameAt (names_read input files) files others → measured input others ≡ measured input files
measured_same input files others same = ap (λ r. and_then r long_enough) (opened_same input files others same)

-- ---- the rip and its record

pub compared_same : (input rec : List ℕ) (files others : Files) → SameAt (compared_names input rec files) files others → compared input rec others ≡ compared input rec files
compared_same input rec files others same =
    let front : SameAt (names_read input files) files others = same_front (names_read input files) (option_to_list (record_under rec (measured input files))) files others same in
    let back : SameAt (option_to_list (record_under rec (measured input files))) files others = same_back (names_read input files) (option_to_list (record_under rec (measured input files))) files others same in
    ap (λ (r : Result Opened Status). and_then r (with_record others)) (measured_same input files others front) ∙ by (measured input files) back
  where
    with_record : Files → Opened → Result (Known × List (List ℕ)) Status
    with_record f rip =
        and_then (recorded (record_name_of rec rip.toc) f) (λ stored. and_then (same_layout rip.toc stored.toc) (λ _. Ok (known_by rip stored, rip.names ++ record_name_of rec rip.toc ∷ [])))

    by : (r : Result Opened Status) → SameAt (option_to_list (record_under rec r)) files others → and_then r (with_record others) ≡ and_then r (with_record files)
    by (Ok rip) back =
        ap (λ (held : Option (List ℕ)). and_then (record_found (record_name_of rec rip.toc) held) (λ stored. and_then (same_layout rip.toc stored.toc) (λ _. Ok (known_by rip stored, rip.names ++ record_name_of rec rip.toc ∷ [])))) back.0
    by (Err status) back = refl

-- ---- steps

-- a step whose next one is the same
pub then_so : {A : Type 0} (step : Result A Status) (next other : A → Outcome → Type 0) (outcome : Outcome) → ((found : A) → step ≡ Ok found → next found outcome → other found outcome)
    → Then step next outcome → Then step other outcome
then_so (Ok found) next other outcome so is = so found refl is
then_so (Err status) next other outcome so is = is
