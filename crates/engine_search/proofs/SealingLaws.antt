-- Seals of mended words, and the bytes that a command takes which may read the rip for seals.
use Rattle.std.proofs.Common.{◌≡◌, ◌∙◌, ◌+◌, ◌*◌, ◌≤◌, ◌++◌, [], ◌∷◌, ℕ, List, length, length-append, Option, None, Some, IfSome, Result, Ok, Err, arith, sym, ap, subst, zero-add, ℤ, pos, negsuc}
use Rattle.std.specs.Prelude.{◌↔◌, ◌-◌, ◌^◌, min, slice_range}
use Rattle.std.proofs.Math.Nat.{le-min, min-le_left, min-le_right}
use Rattle.rip_outside.specs.Causes.{Rose}
use Rattle.rip_outside.specs.declared.fault.ShelfCall.{ShelfCall}
use Rattle.std.proofs.lemmas.Int.{ints}
use Rattle.std.proofs.lemmas.Nat.{mul-le}
use Rattle.rip_outside.specs.Files.{Files}
use Rattle.rip_outside.proofs.FilesLaws.{if_told, when_told}
use Rattle.column_map.specs.Columns.{IsOffset, IsSectorCount, WordTable, per_column, place, stride}
use Rattle.column_map.specs.Mending.{IsMended}
use Rattle.column_map.proofs.TableWords.{table_words-covered, table_words-same}
use Rattle.image_mender.specs.Joined.{word_count}
use Rattle.image_mender.specs.Seal.{seal_of_table, seal_of_words}
use Rattle.offset_search.specs.Near.{Fits}
use Rattle.offset_search.proofs.TableFits.{one_table}
use Rattle.rip_inputs.specs.Opening.{lengths_of}
use Rattle.rip_report.specs.declared.status.Status.{Status}
use Rattle.engine_steps.specs.Steps.{Does, Known, ReadsOnly, Takes, compared}
use Rattle.engine_steps.specs.Comparing.{both_of, compared_names, known_of, names_of}
use Rattle.engine_steps.specs.declared.comparing.Compared.{Compared}
use Rattle.engine_steps.specs.declared.steps.Stop.{Stop}
use Rattle.engine_steps.specs.declared.steps.Stop.TheVariants.{Refused, ReadFault as ReadStop, WriteFault as WriteStop, Oom as WantStop}
use Rattle.engine_search.proofs.AgreementLaws.{AreNearBelow, near_few}
use Rattle.engine_steps.proofs.TakingLaws.{compared_room, found_at, found_told, rip_within, stopped_takes, takes_after, takes_within}
use Rattle.engine_search.specs.Agreement.{Agrees, HasSeal, ReadsCompared, ReadsForSeal, TakesCompared, TakesSealing}
use Rattle.engine_search.specs.Picking.{seal_cost}

-- ---- a rip that is read for seals

-- the first of them, and those that follow
pub one_more_reading : (times w : ℕ) → (1 + times) * w ≡ w + times * w
one_more_reading times w = omega arith

-- a search that is done has read for no more seals than it may
pub reads_cost : (seal : Option (List ℕ)) (given : ℤ) (known : Known) (times each : ℕ) → ReadsForSeal seal (Some given) known times → seal_cost seal each ≡ times * each
reads_cost None given known times each reads = rw reads (omega arith)
reads_cost (Some seal) given known times each reads = rw reads (omega arith)

takes_upto : {T : Type 0} (a b t0 t1 : ℕ) (r : Result T Stop) → a ≤ b → Takes a r t0 t1 → Takes b r t0 t1
takes_upto a b t0 t1 r low takes = takes_after 0 a b t0 t0 t1 r (omega arith) (omega arith) takes

-- ---- after a rip and a record were compared

-- what was taken so far, where the files are told
abbrev pub SealedSoFar : {T : Type 0} → Option Files → (Files → Result (Known × List (List ℕ)) Status) → Option ℤ → (Files → ℕ) → Result T Stop → ℕ → ℕ → Type 0
SealedSoFar held step given each r t0 t1 = (files : Files) → held ≡ Some files → (times : ℕ) → ReadsCompared (step files) given times → Takes ((2 + times) * each files) r t0 t1

-- the bytes of the rip's files and of the record
abbrev pub compared_bytes : List ℕ → List ℕ → Files → ℕ
compared_bytes input rec files = lengths_of (compared_names input rec files) files

fits_twice : (all w times : ℕ) → w ≤ all → all + (1 + times) * w ≤ (2 + times) * all
fits_twice all w times low =
    let more : (1 + times) * w ≤ (1 + times) * all = mul-le (1 + times) w (1 + times) all (omega arith) low in
    let sum : (2 + times) * all ≡ all + (1 + times) * all = omega arith in
    omega (arith, more, sum)

pub compared_image : (h0 : Option Files) (input rec : List ℕ) (found : Compared) (rc : Result Compared Stop) → rc ≡ Ok found → IfSome h0 (λ files. Does (both_of files) rc (compared input rec files))
    → word_count found.image ≡ 1176 * found.shape → (files : Files) → h0 ≡ Some files → 2 * word_count found.image ≤ compared_bytes input rec files
compared_image h0 input rec found rc is does count files told =
    let both : compared input rec files ≡ Ok (both_of files found) = found_told h0 both_of (compared input rec) rc found is does files told in
    omega (arith, compared_room input rec files (known_of files found) (names_of found) both, rip_within input rec files, count)

-- a search after the rip and the record were compared
pub compared_sealing : {T : Type 0} (h0 h1 : Option Files) (input rec : List ℕ) (found : Compared) (given : Option ℤ) (t0 t1 t2 : ℕ) (rc : Result Compared Stop) (r : Result T Stop) → rc ≡ Ok found → h1 ≡ h0
    → IfSome h0 (λ files. Does (both_of files) rc (compared input rec files)) → IfSome h0 (λ files. Takes (compared_bytes input rec files) rc t0 t1) → word_count found.image ≡ 1176 * found.shape
    → IfSome h1 (λ files. TakesSealing given (known_of files found) 1 (2 * word_count found.image) r t1 t2) → SealedSoFar h0 (compared input rec) given (compared_bytes input rec) r t0 t2
compared_sealing h0 h1 input rec found given t0 t1 t2 rc r is same does took count takes files told times reads =
    let all : ℕ = compared_bytes input rec files in
    let both : compared input rec files ≡ Ok (both_of files found) = found_told h0 both_of (compared input rec) rc found is does files told in
    let own : ReadsForSeal found.seal given (known_of files found) times = rw both at reads in
    let before : t1 ≤ t0 + all = found_at all t0 t1 rc found is (when_told h0 (λ files. Takes (compared_bytes input rec files) rc t0 t1) took files told) in
    let here = when_told h1 (λ files. TakesSealing given (known_of files found) 1 (2 * word_count found.image) r t1 t2) takes files (same ∙ told) in
    let low : 2 * word_count found.image ≤ all = compared_image h0 input rec found rc is does count files told in
    takes_after all ((1 + times) * (2 * word_count found.image)) ((2 + times) * all) t0 t1 t2 r before (fits_twice all (2 * word_count found.image) times low) (here times own)

module _ {T U : Type 0} (held : Option Files) (step : Files → Result (Known × List (List ℕ)) Status) (given : Option ℤ) (each : Files → ℕ) (t0 t1 : ℕ) (r : Result T Stop) where
  -- its stop
  pub sealed_stopped : (e : Stop) (result : Result U Stop) → r ≡ Err e → result ≡ Err e → SealedSoFar held step given each r t0 t1 → IfSome held (λ files. TakesCompared (step files) given 3 (each files) result t0 t1)
  sealed_stopped e result is out_is so_far = if_told held _ (λ files told times reads.
      stopped_takes ((3 + times) * each files) t0 t1 r e result is out_is (takes_upto ((2 + times) * each files) ((3 + times) * each files) t0 t1 r (mul-le (2 + times) (each files) (3 + times) (each files) (omega arith) (omega arith)) (so_far files told times reads)))

  -- no further call
  pub sealed_went : (found : T) (result : Result U Stop) → r ≡ Ok found → SealedSoFar held step given each r t0 t1 → IfSome held (λ files. TakesCompared (step files) given 3 (each files) result t0 t1)
  sealed_went found result is so_far = if_told held _ (λ files told times reads.
      let low : t1 ≤ t0 + (2 + times) * each files = found_at ((2 + times) * each files) t0 t1 r found is (so_far files told times reads) in
      let more : (2 + times) * each files ≤ (3 + times) * each files = mul-le (2 + times) (each files) (3 + times) (each files) (omega arith) (omega arith) in
      takes_within ((3 + times) * each files) t0 t1 result (omega (arith, low, more)))

  -- one more reading of the rip
  pub sealed_more : (found : T) (t2 w : ℕ) (result : Result U Stop) → r ≡ Ok found → SealedSoFar held step given each r t0 t1 → ((files : Files) → held ≡ Some files → w ≤ each files) → Takes w result t1 t2
      → IfSome held (λ files. TakesCompared (step files) given 3 (each files) result t0 t2)
  sealed_more found t2 w result is so_far low takes = if_told held _ (λ files told times reads.
      let before : t1 ≤ t0 + (2 + times) * each files = found_at ((2 + times) * each files) t0 t1 r found is (so_far files told times reads) in
      let sum : (3 + times) * each files ≡ (2 + times) * each files + each files = omega arith in
      takes_after ((2 + times) * each files) w ((3 + times) * each files) t0 t1 t2 result before (omega (arith, low files told, sum)) takes)

once : (all times : ℕ) → all ≤ (3 + times) * all
once all times = let sum : (3 + times) * all ≡ all + (2 + times) * all = omega arith in omega (arith, sum)

module _ {U : Type 0} (held : Option Files) (step : Files → Result (Known × List (List ℕ)) Status) (given : Option ℤ) (each : Files → ℕ) (t0 t1 : ℕ) where
  -- where they couldn't be compared
  pub compare_stopped : (rc : Result Compared Stop) (e : Stop) (result : Result U Stop) → rc ≡ Err e → result ≡ Err e → IfSome held (λ files. Takes (each files) rc t0 t1)
      → IfSome held (λ files. TakesCompared (step files) given 3 (each files) result t0 t1)
  compare_stopped rc e result is out_is took = if_told held _ (λ files told times reads.
      stopped_takes ((3 + times) * each files) t0 t1 rc e result is out_is (takes_upto (each files) ((3 + times) * each files) t0 t1 rc (once (each files) times) (when_told held (λ files. Takes (each files) rc t0 t1) took files told)))

  -- where nothing was read after they were
  pub compare_went : (rc : Result Compared Stop) (found : Compared) (result : Result U Stop) → rc ≡ Ok found → IfSome held (λ files. Takes (each files) rc t0 t1)
      → IfSome held (λ files. TakesCompared (step files) given 3 (each files) result t0 t1)
  compare_went rc found result is took = if_told held _ (λ files told times reads.
      takes_within ((3 + times) * each files) t0 t1 result
      (let low : t1 ≤ t0 + each files = found_at (each files) t0 t1 rc found is (when_told held (λ files. Takes (each files) rc t0 t1) took files told) in omega (arith, low, once (each files) times)))

-- ---- the seal of mended words

-- the words of all columns lie in the rip
pub covered_inside : (c : ℕ) (d : ℤ) (words : List ℕ) → IsOffset d → (c + 2) * stride ≤ length words → place d 0 0 + c * stride ≤ length words
covered_inside c (pos d) words h room = omega (arith, ints, room, h.most)
covered_inside c (negsuc d) words h room = omega (arith, room)

pub enough_words : (known : Known) → IsSectorCount known.sectors → length known.words ≡ 1176 * known.sectors → (per_column known.sectors + 2) * stride ≤ length known.words
enough_words known range long = let low : 30 ≤ known.sectors = range.0 in omega arith

-- where a rip has a table's words, they have the table's seal
pub sealed_as : (c : ℕ) (d : ℤ) (table : WordTable) (rip mended : List ℕ) → IsOffset d → (c + 2) * stride ≤ length rip → IsMended c rip d table mended
    → seal_of_words (slice_range mended (place d 0 0) (place d 0 0 + c * stride)) ≡ seal_of_table c table
sealed_as c d table rip mended offset room is =
    ap seal_of_words (table_words-covered c d table mended offset (covered_inside c d mended offset (omega (arith, room, is.whole))) is.covered)

-- tables that fit at one offset have one seal
pub one_seal : (known : Known) (d : ℤ) (table other : WordTable) → per_column known.sectors ≤ 65535 → Fits known.count (per_column known.sectors) known.words d known.stored table
    → Fits known.count (per_column known.sectors) known.words d known.stored other → seal_of_table (per_column known.sectors) table ≡ seal_of_table (per_column known.sectors) other
one_seal known d table other small is also =
    ap seal_of_words (table_words-same (per_column known.sectors) table other (one_table known.count (per_column known.sectors) known.words d known.stored table other small is also))

-- what is written has the record's seal, if it has one
pub sealed_written : (known : Known) (d : ℤ) (table : WordTable) (image : List ℕ) → IsOffset d → (per_column known.sectors + 2) * stride ≤ length known.words
    → IsMended (per_column known.sectors) known.words d table image → HasSeal known.seal (per_column known.sectors) table
    → IfSome known.seal (λ seal. seal_of_words (slice_range image (place d 0 0) (place d 0 0 + per_column known.sectors * stride)) ≡ seal)
sealed_written known d table image offset room is has = by known.seal has
  where
    by : (seal : Option (List ℕ)) → HasSeal seal (per_column known.sectors) table
        → IfSome seal (λ seal. seal_of_words (slice_range image (place d 0 0) (place d 0 0 + per_column known.sectors * stride)) ≡ seal)
    by None has = tt
    by (Some seal) has = sealed_as (per_column known.sectors) d table known.words image offset room is ∙ has

-- a table has the seal that was found of the mended words exactly where the rip agrees with the record by it
pub agrees_by_seal : (known : Known) (d : ℤ) (table : WordTable) (seal found : List ℕ) → per_column known.sectors ≤ 65535 → known.seal ≡ Some seal
    → Fits known.count (per_column known.sectors) known.words d known.stored table → found ≡ seal_of_table (per_column known.sectors) table → (found ≡ seal) ↔ Agrees known d
agrees_by_seal known d table seal found small sealed fits is = (
  λ same. (table, record { fits = fits; sealed = rw sealed (sym is ∙ same) }),
  λ agrees.
      let own : HasSeal (Some seal) (per_column known.sectors) agrees.0 = rw sealed at agrees.1.sealed in
      is ∙ one_seal known d table agrees.0 small fits agrees.1.fits ∙ own,
)

-- ---- a search that reads the rip for seals

rose_earlier : (before mid now : ℕ) → before ≤ mid → Rose mid now → Rose before now
rose_earlier before mid now low rose =
    let up : min (before + 1) (2 ^ 64 - 1) ≤ min (mid + 1) (2 ^ 64 - 1) = le-min (omega (arith, min-le_left (before + 1) (2 ^ 64 - 1))) (min-le_right (before + 1) (2 ^ 64 - 1)) in
    omega (arith, rose, up)

-- a stop after calls that went well
pub later_stop : {T U : Type 0} (before mid now : ShelfCall → ℕ) (r : Result T Stop) (e : Stop) (result : Result U Stop) → r ≡ Err e → result ≡ Err e → ((call : ShelfCall) → before call ≤ mid call)
    → ReadsOnly mid now r → ReadsOnly before now result
later_stop {T = T} {U = U} before mid now r e result is out_is later only = rw out_is (by e (rw is at only))
  where
    by : (e : Stop) → ReadsOnly {T = T} mid now (Err e) → ReadsOnly {T = U} before now (Err e)
    by (Refused status) only = absurd only
    by (ReadStop call) only = (only.0, rose_earlier (before call) (mid call) (now call) (later call) only.1)
    by (WriteStop call) only = absurd only
    by WantStop only = tt

-- the rip is read once for a given offset
pub given_takes : {T : Type 0} (known : Known) (given : ℤ) (times each t0 t1 : ℕ) (r : Result T Stop) → ReadsForSeal known.seal (Some given) known times → Takes (seal_cost known.seal each) r t0 t1 → Takes ((0 + times) * each) r t0 t1
given_takes {T = T} known given times each t0 t1 r reads takes = subst (λ (n : ℕ). Takes {T = T} n r t0 t1) (reads_cost known.seal given known times each reads ∙ ap (λ n. n * each) (sym (zero-add times))) takes

-- one more offset at which the rip is read
pub one_more_cost : (near : List ℤ) (d : ℤ) (cost : ℕ) → length (near ++ d ∷ []) * cost ≡ length near * cost + cost
one_more_cost near d cost = ap (λ n. n * cost) (length-append near (d ∷ [])) ∙ omega arith

pub fits_so : (near : List ℤ) (d : ℤ) (cost most : ℕ) → length (near ++ d ∷ []) * cost ≤ most → length near * cost + cost ≤ most
fits_so near d cost most low = omega (arith, one_more_cost near d cost, low)

pub more_cost : (near : List ℤ) (d : ℤ) (cost t0 t1 t2 : ℕ) → t1 ≤ t0 + length near * cost → t2 ≤ t1 + cost → t2 ≤ t0 + length (near ++ d ∷ []) * cost
more_cost near d cost t0 t1 t2 so_far more = omega (arith, one_more_cost near d cost, so_far, more)

-- the bytes for the seals that were read are at most those that may be
pub reads_bound : (known : Known) (from : ℤ) (near : List ℤ) (each times : ℕ) → AreNearBelow known from near → ReadsForSeal known.seal None known times → length near * seal_cost known.seal each ≤ (0 + times) * each
reads_bound known from near each times so reads = by known.seal reads
  where
    by : (seal : Option (List ℕ)) → ReadsForSeal seal None known times → length near * seal_cost seal each ≤ (0 + times) * each
    by None reads = omega arith
    by (Some seal) reads = let few = near_few known from near reads.0 so reads.1 in mul-le (length near) each (0 + times) each (omega (arith, few, reads.2)) (omega arith)

-- the rip was read once, before a search that may read it for seals
module _ {T : Type 0} (held mid : Option Files) (given : Option ℤ) (known : Files → Known) (each t0 t1 t2 : ℕ) (r : Result T Stop) (same : mid ≡ held) (once_read : t1 ≤ t0 + each)
    (takes : IfSome mid (λ files. TakesSealing given (known files) 0 each r t1 t2)) where
  sealed_at : (files : Files) → held ≡ Some files → TakesSealing given (known files) 1 each r t0 t2
  sealed_at files told times reads =
      let here = when_told mid (λ files. TakesSealing given (known files) 0 each r t1 t2) takes files (same ∙ told) in
      let sum : (1 + times) * each ≡ each + (0 + times) * each = omega arith in
      takes_after each ((0 + times) * each) ((1 + times) * each) t0 t1 t2 r once_read (omega (arith, sum)) (here times reads)

  pub first_read : IfSome held (λ files. TakesSealing given (known files) 1 each r t0 t2)
  first_read = if_told held _ (λ files told. sealed_at files told)

  pub first_stopped : {U : Type 0} (e : Stop) (result : Result U Stop) → r ≡ Err e → result ≡ Err e → IfSome held (λ files. TakesSealing given (known files) 1 each result t0 t2)
  first_stopped e result is out_is = if_told held _ (λ files told times reads. stopped_takes ((1 + times) * each) t0 t2 r e result is out_is (sealed_at files told times reads))

  pub first_went : {U : Type 0} (found : T) (result : Result U Stop) → r ≡ Ok found → IfSome held (λ files. TakesSealing given (known files) 1 each result t0 t2)
  first_went found result is = if_told held _ (λ files told times reads. takes_within ((1 + times) * each) t0 t2 result (found_at ((1 + times) * each) t0 t2 r found is (sealed_at files told times reads)))
