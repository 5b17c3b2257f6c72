-- What is read of a rip has a layout.
use Rattle.std.proofs.Common.{◌≡◌, ◌∙◌, ℕ, suc, List, [], ◌∷◌, length, map, Bool, true, false, cond, Option, Result, Ok, Err, sym, ap, subst, arith}
use Rattle.std.specs.Result.{result_map_both}
use Rattle.std.proofs.lemmas.List.{length-map}
use Rattle.std.proofs.lemmas.List.Elements.{All-cons, All-nil}
use Rattle.std.specs.FinMap.{get}
use Rattle.rip_outside.specs.Files.{Files}
use Rattle.cue_sheet.specs.Reading.{RefusedLine, Sheet, sheet_reading}
use Rattle.cue_sheet.specs.Sheet.{IsPlaced, IsSheet}
use Rattle.cue_sheet.proofs.SoundLaws.{sheet_valid}
use Rattle.disc_toc.specs.Joined.{joined_toc, sole_sheet}
use Rattle.disc_toc.specs.Layout.{IsLayout}
use Rattle.disc_toc.specs.Toc.{Toc}
use Rattle.disc_toc.proofs.JoinedLaws.{joined_layout}
use Rattle.rip_inputs.specs.Opening.{Opened, behind, disc_sheet, folder_of, is_sheet, name_behind, opening_then, rip_reading, sheet_opened, text_opened, wavs_opened}
use Rattle.rip_inputs.specs.declared.rip.RipFail.{RipFail}
use Rattle.rip_inputs.specs.declared.rip.RipFail.TheVariants.{CueRefused}
use Rattle.rip_inputs.proofs.LayoutLaws.{joined_of_layout}
use Rattle.rip_inputs.proofs.RipLaws.{rip_reading-ReadBy}
use Rattle.rip_inputs.proofs.StepLaws.{opening_then-Ok}
use Rattle.rip_inputs.proofs.WavLaws.{none_opened, opened_parts}

read_ok : (read : Result Sheet RefusedLine) (sheet : Sheet) → result_map_both (λ sheet. sheet) (λ refusal. CueRefused refusal.line refusal.kind) read ≡ Ok sheet → read ≡ Ok sheet
read_ok (Ok found) sheet e = let same : found ≡ sheet = cc in ap Ok same
read_ok (Err refused) sheet e = cc

named_valid : (name : List ℕ) (held : Option (List ℕ)) (sheet : Sheet) → sheet_opened name held ≡ Ok sheet → IsSheet sheet.files sheet.tracks sheet.pregap
unfolding sheet_opened
named_valid name held sheet e =
    let step = opening_then-Ok (text_opened name held) (λ text. result_map_both (λ sheet. sheet) (λ refusal. CueRefused refusal.line refusal.kind) (sheet_reading text)) sheet e in
    sheet_valid step.0 sheet (read_ok (sheet_reading step.0) sheet step.2)

behind_valid : (folder : List ℕ) (sheet : Sheet) → IsSheet sheet.files sheet.tracks sheet.pregap → IsSheet (map (name_behind folder) sheet.files) sheet.tracks sheet.pregap
behind_valid folder sheet valid =
    let same : length (map (name_behind folder) sheet.files) ≡ length sheet.files = length-map sheet.files (name_behind folder) in
    record {
      some_files = rw same valid.some_files;
      few_files = rw same valid.few_files;
      some_tracks = valid.some_tracks;
      few_tracks = valid.few_tracks;
      placed = rw same valid.placed;
      in_order = valid.in_order;
      timed = valid.timed;
    }

sole_valid : (name : List ℕ) → IsSheet (sole_sheet name).files (sole_sheet name).tracks (sole_sheet name).pregap
sole_valid name = record {
  some_files = omega arith;
  few_files = omega arith;
  some_tracks = omega arith;
  few_tracks = omega arith;
  placed = All-cons (IsPlaced 1) _ [] record { inside = omega arith; timed = omega arith } (All-nil (IsPlaced 1));
  in_order = λ i j d low below. absurd (omega arith);
  timed = omega arith;
}

-- the sheet of a rip is one
disc_valid : (input : List ℕ) (files : Files) (sheet : Sheet) → disc_sheet input files ≡ Ok sheet → IsSheet sheet.files sheet.tracks sheet.pregap
unfolding disc_sheet
disc_valid input files sheet e = by (is_sheet input) e
  where
    by : (named : Bool) → cond {A = Result Sheet RipFail} named (opening_then (sheet_opened input (get files input)) (λ sheet. Ok (behind (folder_of input) sheet))) (Ok (sole_sheet input)) ≡ Ok sheet → IsSheet sheet.files sheet.tracks sheet.pregap
    by true e =
        let step = opening_then-Ok (sheet_opened input (get files input)) (λ sheet. Ok (behind (folder_of input) sheet)) sheet e in
        let same : behind (folder_of input) step.0 ≡ sheet = cc in
        subst (λ (s : Sheet). IsSheet s.files s.tracks s.pregap) same (behind_valid (folder_of input) step.0 (named_valid input (get files input) step.0 step.1))
    by false e =
        let same : sole_sheet input ≡ sheet = cc in
        subst (λ (s : Sheet). IsSheet s.files s.tracks s.pregap) same (sole_valid input)

-- each file has its words
wavs_each : (names : List (List ℕ)) (files : Files) (wavs : List (List ℕ)) → wavs_opened names files ≡ Ok wavs → length wavs ≡ length names
wavs_each [] files wavs e = let same : Ok [] ≡ Ok wavs = sym (none_opened files) ∙ e in let none : [] ≡ wavs = cc in ap length (sym none)
wavs_each (name ∷ names) files wavs e =
    let parts = opened_parts name names files wavs e in
    let later = parts.2 in
    ap length (sym later.2) ∙ ap (λ n. suc n) (wavs_each names files later.0 later.1)

-- a rip that is read has a layout
pub opened_layout : (input : List ℕ) (files : Files) (opened : Opened) → rip_reading input files ≡ Ok opened → IsLayout opened.toc.pregap opened.toc.starts opened.toc.sectors
opened_layout input files opened e =
    let read = rip_reading-ReadBy input files opened e in
    let words : List ℕ = map length read.wavs in
    let same : joined_toc read.sheet words ≡ opened.toc = joined_of_layout read.sheet words opened.toc read.laid_out in
    let size : length words ≡ length read.sheet.files = length-map read.wavs length ∙ wavs_each read.sheet.files files read.wavs read.from_files in
    let valid = joined_layout read.sheet words (disc_valid input files read.sheet read.from_name) size (read.laid_out ∙ ap Ok (sym same)) in
    subst (λ (t : Toc). IsLayout t.pregap t.starts t.sectors) same valid
