-- The files of a trial, and what is read of them.
use Rattle.std.proofs.Common.{◌≡◌, ◌≢◌, ◌∙◌, ◌+◌, ◌*◌, ◌/◌, ◌%◌, ◌≤◌, ◌^◌, ℕ, zero, suc, List, [], ◌∷◌, length, true, false, None, Some, Ok, refl, sym, ap, arith, ℤ}
use Rattle.std.specs.Prelude.{◌==◌, Contains, codes, nat_lt}
use Rattle.std.specs.FinMap.{empty, get, get-empty, remove}
use Rattle.std.specs.Str.{bytes_eq}
use Rattle.std.proofs.lemmas.Bool.Decides.{nat_tests}
use Rattle.std.proofs.lemmas.Slice.Eq.{bytes_eq-Decides}
use Rattle.rip_outside.specs.Files.{Files}
use Rattle.rip_outside.proofs.FilesLaws.{get-insert_same, get-insert_other, get-remove_other}
use Rattle.column_map.specs.Columns.{IsSectorCount, per_column, table_of_image}
use Rattle.sha2.proofs.Facts256.{length-sha256}
use Rattle.image_mender.specs.Seal.{seal_of_table}
use Rattle.image_mender.proofs.SealLaws.{AreBytes-seal}
use Rattle.column_map.specs.Image.{AreWords}
use Rattle.syndrome_stream.specs.Parity.{image_parity}
use Rattle.syndrome_stream.proofs.ParityLaws.{AreRows-image_parity}
use Rattle.disc_toc.specs.OneTrack.{one_track_of, one_track_reading}
use Rattle.disc_toc.proofs.DifferenceLaws.{difference_of-same}
use Rattle.wav_frames.specs.Wav.{wav_bytes}
use Rattle.wav_frames.specs.Opening.{IsPlain}
use Rattle.wav_frames.proofs.ReadingLaws.{wav_reading-plain, wav_words-plain}
use Rattle.parity_store.specs.Reading.{IsStorable}
use Rattle.parity_store.proofs.WrittenLaws.{written}
use Rattle.rip_inputs.specs.Opening.{Opened, is_sheet, rip_reading, wav_opened}
use Rattle.rip_inputs.proofs.OneFileLaws.{rip_reading-wav}
use Rattle.rip_outside.specs.Outputs.{part_of}
use Rattle.engine_steps.specs.Steps.{compared, measured, opened, record_found, record_read, recorded, rip_read}
use Rattle.engine_steps.proofs.NameLaws.{unread_differs}
use Rattle.engine_words.specs.Records.{record_of}
use Rattle.trial_disc.specs.Generated.{generated, state}
use Rattle.trial_disc.specs.Damaged.{damaged, late, late_word}
use Rattle.std.proofs.Math.ListN.{length-set}
use Rattle.std.proofs.lemmas.List.FromFn.{length-map-range_with_len}
use Rattle.cmd_trial.specs.TrialOutcome.{known_rip}
use Rattle.cmd_trial.specs.TrialFiles.{disc_files, mended_files, registered_files, trial_files}

-- ---- a plain WAV file

few_words : (words : List ℕ) (sectors : ℕ) → IsSectorCount sectors → length words ≡ 1176 * sectors → IsPlain words (wav_bytes words)
few_words words sectors range whole =
    let most : sectors ≤ 445500 = range.1 in
    record { file = refl; even = omega arith; few = omega arith }

-- its words are opened
plain_opened : (name words : List ℕ) → IsPlain words (wav_bytes words) → wav_opened name (Some (wav_bytes words)) ≡ Ok words
unfolding wav_opened
plain_opened name words plain = rw (wav_reading-plain words (wav_bytes words) plain) (ap Ok (wav_words-plain words (wav_bytes words) plain))

-- so many words are one track
one_track : (words sectors : ℕ) → IsSectorCount sectors → words ≡ 1176 * sectors → one_track_reading words ≡ Ok (one_track_of sectors)
one_track words sectors range is =
    let least : 30 ≤ sectors = range.0 in
    let most : sectors ≤ 445500 = range.1 in
    let no_rest : words % 1176 ≡ 0 = omega arith in
    let size : words / 1176 ≡ sectors = omega arith in
    let whole : (words % 1176 == 0) ≡ true = grind (arith, nat_tests) in
    let some : (sectors == 0) ≡ false = grind (arith, nat_tests) in
    let few : nat_lt 445500 sectors ≡ false = grind (arith, nat_tests) in
    rw (whole, size, some, few) refl

-- a rip that is one plain WAV file
abbrev pub sole_rip : List ℕ → ℕ → List ℕ → Opened
sole_rip name sectors words = record { toc = one_track_of sectors; words = words; names = name ∷ [] }

module _ (name words : List ℕ) (sectors : ℕ) (files : Files) (plain : is_sheet name ≡ false) (held : get files name ≡ Some (wav_bytes words)) (range : IsSectorCount sectors) (whole : length words ≡ 1176 * sectors) where
  pub opened_wav : opened name files ≡ Ok (sole_rip name sectors words)
  opened_wav =
      let found : wav_opened name (get files name) ≡ Ok words = ap (wav_opened name) held ∙ plain_opened name words (few_words words sectors range whole) in
      let track = one_track (length words) sectors range whole in
      let read : rip_reading name files ≡ Ok (sole_rip name sectors words) = rip_reading-wav name files plain ∙ rw (found, track) refl in
      ap rip_read read

  -- which is long enough
  pub measured_wav : measured name files ≡ Ok (sole_rip name sectors words)
  measured_wav =
      let least : 30 ≤ sectors = range.0 in
      let long : nat_lt sectors 30 ≡ false = grind (arith, nat_tests) in
      rw (opened_wav, long) refl

-- ---- the names

names_differ : (a b : List ℕ) → bytes_eq a b ≡ false → a ≢ b
names_differ a b apart same =
    let own : bytes_eq a b ≡ true = grind (arith, bytes_eq-Decides) in
    let no : true ≡ false = sym own ∙ apart in cc

record_differs : codes "disc.rpar" ≢ codes "disc.wav"
record_differs = names_differ (codes "disc.rpar") (codes "disc.wav") refl

rip_differs : codes "disc.rpar" ≢ codes "rip.wav"
rip_differs = names_differ (codes "disc.rpar") (codes "rip.wav") refl

out_differs : (codes "out.wav" ≢ codes "rip.wav") × (codes "out.wav" ≢ codes "disc.rpar") × (codes "out.wav" ≢ part_of (codes "disc.rpar")) × (codes "out.wav" ≢ codes "disc.wav")
out_differs = (
  names_differ (codes "out.wav") (codes "rip.wav") refl,
  names_differ (codes "out.wav") (codes "disc.rpar") refl,
  names_differ (codes "out.wav") (part_of (codes "disc.rpar")) refl,
  names_differ (codes "out.wav") (codes "disc.wav") refl,
)

-- the names that are read where the rip is mended
abbrev pub trial_names : List (List ℕ)
trial_names = codes "rip.wav" ∷ (codes "disc.rpar" ∷ [])

-- no part of the mended rip is read
pub unread : (name : List ℕ) → Contains trial_names name → name ≢ codes "out.wav.part"
unread name named = unread_differs (codes "out.wav.part") trial_names name refl named

-- ---- the disc alone

module _ (sectors : ℕ) (disc : List ℕ) (range : IsSectorCount sectors) (whole : length disc ≡ 1176 * sectors) where
  pub disc_measured : measured (codes "disc.wav") (disc_files disc) ≡ Ok (sole_rip (codes "disc.wav") sectors disc)
  unfolding disc_files
  disc_measured = measured_wav (codes "disc.wav") disc sectors (disc_files disc) refl (get-insert_same empty (codes "disc.wav") (wav_bytes disc)) range whole

  pub record_absent : get (disc_files disc) (codes "disc.rpar") ≡ None
  unfolding disc_files
  record_absent = get-insert_other empty (codes "disc.wav") (wav_bytes disc) (codes "disc.rpar") record_differs ∙ get-empty _ (codes "disc.rpar")

  -- ---- the disc's record and a rip

  storable : AreWords disc → IsStorable record { toc = one_track_of sectors; count = 8; rows = image_parity 8 (per_column sectors) disc; seal = Some (seal_of_table (per_column sectors) (table_of_image disc)) }
  storable words =
      let least : 30 ≤ sectors = range.0 in
      let most : sectors ≤ 445500 = range.1 in
      record {
        layout = record { some = omega arith; few = omega arith; rising = λ k below. absurd (omega arith); inside = omega arith; fits = omega arith };
        long = least;
        known = refl;
        rows = AreRows-image_parity 8 (per_column sectors) disc words;
        seal = record { bytes = AreBytes-seal _; size = length-sha256 _ };
      }

  module _ (rip : List ℕ) where
    pub record_held : get (trial_files sectors disc rip) (codes "disc.rpar") ≡ Some (record_of 8 (one_track_of sectors) disc)
    unfolding trial_files registered_files
    record_held =
        get-insert_other (registered_files sectors disc) (codes "rip.wav") (wav_bytes rip) (codes "disc.rpar") rip_differs
        ∙ get-insert_same (remove (disc_files disc) (part_of (codes "disc.rpar"))) (codes "disc.rpar") (record_of 8 (one_track_of sectors) disc)

    record_found_so : AreWords disc → recorded (codes "disc.rpar") (trial_files sectors disc rip) ≡ Ok record { toc = one_track_of sectors; count = 8; rows = image_parity 8 (per_column sectors) disc; seal = Some (seal_of_table (per_column sectors) (table_of_image disc)) }
    record_found_so words = ap (record_found (codes "disc.rpar")) record_held ∙ ap record_read (written _ (storable words))

    rip_held : get (trial_files sectors disc rip) (codes "rip.wav") ≡ Some (wav_bytes rip)
    unfolding trial_files
    rip_held = get-insert_same (registered_files sectors disc) (codes "rip.wav") (wav_bytes rip)

    pub trial_compared : AreWords disc → length rip ≡ 1176 * sectors → compared (codes "rip.wav") (codes "disc.rpar") (trial_files sectors disc rip) ≡ Ok (known_rip sectors disc rip, trial_names)
    trial_compared words rip_whole =
        let read = measured_wav (codes "rip.wav") rip sectors (trial_files sectors disc rip) refl rip_held range rip_whole in
        let found = record_found_so words in
        let same = difference_of-same (one_track_of sectors) in
        rw (read, found, same) refl

    pub out_absent : get (trial_files sectors disc rip) (codes "out.wav") ≡ None
    unfolding trial_files registered_files disc_files
    out_absent =
        get-insert_other (registered_files sectors disc) (codes "rip.wav") (wav_bytes rip) (codes "out.wav") out_differs.0
        ∙ get-insert_other (remove (disc_files disc) (part_of (codes "disc.rpar"))) (codes "disc.rpar") (record_of 8 (one_track_of sectors) disc) (codes "out.wav") out_differs.1
        ∙ get-remove_other (disc_files disc) (part_of (codes "disc.rpar")) (codes "out.wav") out_differs.2
        ∙ get-insert_other empty (codes "disc.wav") (wav_bytes disc) (codes "out.wav") out_differs.3
        ∙ get-empty _ (codes "out.wav")

    -- ---- the mended rip

    pub out_opened : (mended : List ℕ) → length mended ≡ 1176 * sectors → opened (codes "out.wav") (mended_files sectors disc rip mended) ≡ Ok (sole_rip (codes "out.wav") sectors mended)
    unfolding mended_files
    out_opened mended mended_whole =
        opened_wav (codes "out.wav") mended sectors (mended_files sectors disc rip mended) refl
        (get-insert_same (remove (trial_files sectors disc rip) (part_of (codes "out.wav"))) (codes "out.wav") (wav_bytes mended)) range mended_whole

-- ---- the words of the disc and of its rip

length-damaged : (c : ℕ) (shift : ℤ) (hits : ℕ) (rip : List ℕ) → length (damaged c shift hits rip) ≡ length rip
length-damaged c shift zero rip = refl
length-damaged c shift (suc h) rip = simp length-set (length-damaged c shift h rip)

pub length-made : (c : ℕ) (shift : ℤ) (hits : ℕ) (disc : List ℕ) → length (damaged c shift hits (late disc shift)) ≡ length disc
length-made c shift hits disc = length-damaged c shift hits (late disc shift) ∙ length-map-range_with_len (late_word disc shift) 0 (length disc)

pub disc_whole : (seed sectors : ℕ) → length (generated seed (1176 * sectors)) ≡ 1176 * sectors
disc_whole seed sectors = length-map-range_with_len (λ i. state seed (i + 1) / 2 ^ 32) 0 (1176 * sectors)
