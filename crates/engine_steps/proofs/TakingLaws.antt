-- The bytes that a command takes, call by call.
use Rattle.std.proofs.Common.{◌≡◌, ◌∙◌, ◌+◌, ◌*◌, ◌≤◌, ◌++◌, ℕ, List, [], ◌∷◌, length, Option, None, Some, IfSome, Result, Ok, Err, arith, refl, sym, ap, subst, zero-add}
use Rattle.std.specs.Option.{option_to_list}
use Rattle.rip_outside.specs.Files.{Files, bytes_at}
use Rattle.rip_outside.proofs.FilesLaws.{when_told}
use Rattle.parity_store.specs.Naming.{record_name_of}
use Rattle.rip_inputs.specs.Opening.{Opened, lengths_of, names_read, rip_reading}
use Rattle.rip_inputs.proofs.LengthLaws.{lengths_of-append, opened_length, opened_within}
use Rattle.rip_inputs.proofs.RipLaws.{rip_reading-ReadBy}
use Rattle.rip_report.specs.declared.status.Status.{Status}
use Rattle.engine_steps.specs.Steps.{Does, Known, Takes, compared, long_enough, measured, opened}
use Rattle.engine_steps.specs.Comparing.{compared_names, record_under}
use Rattle.engine_steps.specs.declared.steps.Stop.{Stop}
use Rattle.engine_steps.specs.declared.steps.Stop.TheVariants.{Refused, ReadFault as ReadStop, WriteFault as WriteStop, Oom as WantStop}
use Rattle.engine_steps.proofs.ComparedLaws.{compared_sectors, long_range, read_rip, second_found}

-- a call after one that took some bytes
pub takes_after : {T : Type 0} (a b c t0 t1 t2 : ℕ) (r : Result T Stop) → t1 ≤ t0 + a → a + b ≤ c → Takes b r t1 t2 → Takes c r t0 t2
takes_after a b c t0 t1 t2 (Ok found) so_far fits takes = omega arith
takes_after a b c t0 t1 t2 (Err (Refused status)) so_far fits takes = omega arith
takes_after a b c t0 t1 t2 (Err (ReadStop call)) so_far fits takes = tt
takes_after a b c t0 t1 t2 (Err (WriteStop call)) so_far fits takes = omega arith
takes_after a b c t0 t1 t2 (Err WantStop) so_far fits takes = omega arith

pub takes_within : {T : Type 0} (most t0 t1 : ℕ) (r : Result T Stop) → t1 ≤ t0 + most → Takes most r t0 t1
takes_within most t0 t1 (Ok found) low = low
takes_within most t0 t1 (Err (Refused status)) low = low
takes_within most t0 t1 (Err (ReadStop call)) low = tt
takes_within most t0 t1 (Err (WriteStop call)) low = low
takes_within most t0 t1 (Err WantStop) low = low

-- the stop of a call is passed on
stop_takes : (T U : Type 0) (most t0 t1 : ℕ) (e : Stop) → Takes {T = T} most (Err e) t0 t1 → Takes {T = U} most (Err e) t0 t1
stop_takes T U most t0 t1 (Refused status) takes = takes
stop_takes T U most t0 t1 (ReadStop call) takes = tt
stop_takes T U most t0 t1 (WriteStop call) takes = takes
stop_takes T U most t0 t1 WantStop takes = takes

pub stopped_takes : {T U : Type 0} (most t0 t1 : ℕ) (r : Result T Stop) (e : Stop) (result : Result U Stop) → r ≡ Err e → result ≡ Err e → Takes most r t0 t1 → Takes most result t0 t1
stopped_takes {T = T} {U = U} most t0 t1 r e result is out_is takes = rw out_is (stop_takes T U most t0 t1 e (rw is at takes))

-- what was taken so far, where the files are told
abbrev pub SoFar : Option Files → (Files → ℕ) → ℕ → ℕ → Type 0
SoFar held most t0 t1 = (files : Files) → held ≡ Some files → t1 ≤ t0 + most files

-- nothing yet
pub none_so_far : (held : Option Files) (t : ℕ) → SoFar held (λ _. 0) t t
none_so_far held t files told = omega arith

pub found_at : {T : Type 0} (most t0 t1 : ℕ) (r : Result T Stop) (found : T) → r ≡ Ok found → Takes most r t0 t1 → t1 ≤ t0 + most
found_at most t0 t1 r found is takes = rw is at takes

-- one more call that went well
pub more_so_far : {T : Type 0} (held mid : Option Files) (so_far more most : Files → ℕ) (t0 t1 t2 : ℕ) (r : Result T Stop) (found : T) → r ≡ Ok found → mid ≡ held → SoFar held so_far t0 t1
    → IfSome mid (λ files. Takes (more files) r t1 t2) → ((files : Files) → held ≡ Some files → so_far files + more files ≤ most files) → SoFar held most t0 t2
more_so_far None mid so_far more most t0 t1 t2 r found is same took takes fits files told = let no : ⊥ = cc in absurd no
more_so_far (Some known) mid so_far more most t0 t1 t2 r found is same took takes fits files told =
    let here : Takes (more known) r t1 t2 = rw same at takes in
    let low : t2 ≤ t1 + more known = found_at (more known) t1 t2 r found is here in
    let before : t1 ≤ t0 + so_far known = took known refl in
    let all : so_far known + more known ≤ most known = fits known refl in
    let same_files : known ≡ files = cc in
    let here_too : t2 ≤ t0 + most known = omega arith in
    subst (λ f. t2 ≤ t0 + most f) same_files here_too

-- and no further call
pub takes_so_far : {T : Type 0} (held : Option Files) (most : Files → ℕ) (t0 t1 : ℕ) (result : Result T Stop) → SoFar held most t0 t1 → IfSome held (λ files. Takes (most files) result t0 t1)
takes_so_far None most t0 t1 result took = tt
takes_so_far (Some known) most t0 t1 result took = takes_within (most known) t0 t1 result (took known refl)

-- the last call
pub takes_last : {T : Type 0} (held mid : Option Files) (so_far more most : Files → ℕ) (t0 t1 t2 : ℕ) (r : Result T Stop) → mid ≡ held → SoFar held so_far t0 t1
    → IfSome mid (λ files. Takes (more files) r t1 t2) → ((files : Files) → held ≡ Some files → so_far files + more files ≤ most files) → IfSome held (λ files. Takes (most files) r t0 t2)
takes_last None mid so_far more most t0 t1 t2 r same took takes fits = tt
takes_last (Some known) mid so_far more most t0 t1 t2 r same took takes fits =
    takes_after (so_far known) (more known) (most known) t0 t1 t2 r (took known refl) (fits known refl) (rw same at takes)

-- and its stop
pub takes_stopped : {T U : Type 0} (held mid : Option Files) (so_far more most : Files → ℕ) (t0 t1 t2 : ℕ) (r : Result T Stop) (e : Stop) (result : Result U Stop) → r ≡ Err e → result ≡ Err e → mid ≡ held
    → SoFar held so_far t0 t1 → IfSome mid (λ files. Takes (more files) r t1 t2) → ((files : Files) → held ≡ Some files → so_far files + more files ≤ most files)
    → IfSome held (λ files. Takes (most files) result t0 t2)
takes_stopped None mid so_far more most t0 t1 t2 r e result is out_is same took takes fits = tt
takes_stopped (Some known) mid so_far more most t0 t1 t2 r e result is out_is same took takes fits =
    stopped_takes (most known) t0 t2 r e result is out_is (takes_after (so_far known) (more known) (most known) t0 t1 t2 r (took known refl) (fits known refl) (rw same at takes))

-- ---- the bytes of the files that are read

-- a rip that was read is one that is long enough
measured_read : (input : List ℕ) (files : Files) (rip : Opened) → measured input files ≡ Ok rip → rip_reading input files ≡ Ok rip
measured_read input files rip is =
    let one = second_found (opened input files) long_enough rip is in
    read_rip (rip_reading input files) one.0 one.1 ∙ ap Ok (long_range one.0 rip one.2).0

-- the bytes of the rip's words lie in its files
opened_room : (input : List ℕ) (files : Files) (rip : Opened) → rip_reading input files ≡ Ok rip → 2352 * rip.toc.sectors ≤ lengths_of (names_read input files) files
opened_room input files rip is =
    let within = opened_within input files rip is in
    let long = opened_length input files rip is in
    let read = rip_reading-ReadBy input files rip is in
    let names : lengths_of rip.names files ≡ lengths_of (names_read input files) files = ap (λ names. lengths_of names files) read.names in
    omega (arith, within, long, names)

-- where it is opened
pub opened_bytes : (input : List ℕ) (files : Files) (rip : Opened) → opened input files ≡ Ok rip → 2352 * rip.toc.sectors ≤ lengths_of (names_read input files) files
opened_bytes input files rip is = opened_room input files rip (read_rip (rip_reading input files) rip is)

pub measured_room : (input : List ℕ) (files : Files) (rip : Opened) → measured input files ≡ Ok rip → 2352 * rip.toc.sectors ≤ lengths_of (names_read input files) files
measured_room input files rip is = opened_room input files rip (measured_read input files rip is)

-- the bytes of the rip's files and of the record
pub with_record : (input rec : List ℕ) (files : Files) (rip : Opened) → measured input files ≡ Ok rip
    → lengths_of (compared_names input rec files) files ≡ lengths_of (names_read input files) files + length (bytes_at (record_name_of rec rip.toc) files)
with_record input rec files rip is =
    let name = record_name_of rec rip.toc in
    let under : record_under rec (measured input files) ≡ Some name = ap (record_under rec) is in
    let named : lengths_of (compared_names input rec files) files ≡ lengths_of (names_read input files ++ name ∷ []) files = ap (λ (names : Option (List ℕ)). lengths_of (names_read input files ++ option_to_list names) files) under in
    let both = lengths_of-append (names_read input files) (name ∷ []) files in
    let one : lengths_of (name ∷ []) files ≡ length (bytes_at name files) = zero-add (length (bytes_at name files)) in
    named ∙ both ∙ ap (λ n. lengths_of (names_read input files) files + n) one

pub rip_within : (input rec : List ℕ) (files : Files) → lengths_of (names_read input files) files ≤ lengths_of (compared_names input rec files) files
rip_within input rec files =
    let parts = lengths_of-append (names_read input files) (option_to_list (record_under rec (measured input files))) files in omega (arith, parts)

pub compared_room : (input rec : List ℕ) (files : Files) (known : Known) (names : List (List ℕ)) → compared input rec files ≡ Ok (known, names)
    → 2352 * known.sectors ≤ lengths_of (names_read input files) files
compared_room input rec files known names is =
    let from = compared_sectors input rec files known names is in
    subst (λ s. 2352 * s ≤ lengths_of (names_read input files) files) from.2 (measured_room input files from.0 from.1)

-- the rip has the words of its sectors
pub compared_length : (input rec : List ℕ) (files : Files) (known : Known) (names : List (List ℕ)) → compared input rec files ≡ Ok (known, names) → length known.words ≡ 1176 * known.sectors
compared_length input rec files known names is =
    let from = compared_sectors input rec files known names is in
    let long = opened_length input files from.0 (measured_read input files from.0 from.1) in
    ap length (sym from.3) ∙ long ∙ ap (λ s. 1176 * s) from.2

-- what a step found, where the files are told
pub found_told : {A T : Type 0} (held : Option Files) (view : Files → T → A) (step : Files → Result A Status) (r : Result T Stop) (found : T) → r ≡ Ok found
    → IfSome held (λ files. Does (view files) r (step files)) → (files : Files) → held ≡ Some files → step files ≡ Ok (view files found)
found_told held view step r found is does files told =
    let here = when_told held (λ files. Does (view files) r (step files)) does files told in
    rw is at here
