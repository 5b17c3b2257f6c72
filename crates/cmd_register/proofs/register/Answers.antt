use Rattle.std.proofs.Common.{◌≡◌, ◌∙◌, ◌*◌, ℕ, List, [], ◌∷◌, Ok, refl, rules, arith, Some, sym}
use Rattle.std.specs.List.{list_any}
use Rattle.std.specs.Str.{bytes_eq}
use Rattle.std.proofs.lemmas.Result.{err_from_is_err_and}
use Rattle.rip_outside.specs.Files.{Files}
use Rattle.rip_outside.proofs.FilesLaws.{if_told}
use Rattle.image_mender.specs.Joined.{word_count}
use Rattle.disc_toc.specs.Toc.{toc_of}
use Rattle.column_map.specs.declared.shape.Shape.{Shape}
use Rattle.parity_store.specs.Naming.{record_name_of}
use Rattle.rip_inputs.specs.Opening.{Opened, lengths_of, names_read}
use Rattle.rip_inputs.specs.Telling.{opened_of}
use Rattle.rip_inputs.specs.declared.rip.Rip.{Rip}
use Rattle.rip_outside.specs.Outputs.{part_of}
use Rattle.column_map.specs.Npar.{parity_words}
use Rattle.engine_steps.specs.Steps.{free, measured}
use Rattle.engine_steps.specs.Outcome.{Outcome, Then}
use Rattle.cmd_register.specs.RegisterOutcome.{registered, IsRegisterOutcome}
use Rattle.engine_steps.proofs.Leaving.{free_told, stopped, went_on}
use Rattle.engine_steps.proofs.TakingLaws.{found_told, measured_room, more_so_far, none_so_far, takes_last, takes_so_far}
use Rattle.rip_outside.proofs.CrashLaws.{told_rests_twice}
use Rattle.cmd_register.proofs.RegisterLaws.{register_meets}
use Rattle.engine_steps.proofs.CrashingLaws.{safe_after, safe_rests, safe_weaker}
use Rattle.cmd_register.proofs.register.Goals as goal

-- what comes of a rip
abbrev checked : ℕ → List ℕ → Files → Opened → Outcome → Type 0
checked count rec files rip = Then (free (record_name_of rec rip.toc ∷ []) rip.names files) (λ _ o. o ≡ registered (record_name_of rec rip.toc) count rip)

pub returns-in_err-check_free-clause-leaves : goal.returns-in_err-check_free-clause-leaves
returns-in_err-check_free-clause-leaves g c =
    let h0 = g.S.Shelf.held c.args.shelf.now in
    let rec = c.args.rec.now in
    let count = parity_words c.args.npar in
    let rip = c.in_ok-rip.rip in
    let name = record_name_of rec (toc_of rip.layout) in
    let named : c.as_str-3.result.now ≡ name = search rules in
    let read : c.is_among-is_read.result ≡ list_any (bytes_eq (part_of name)) rip.names = search rules in
    let p = err_from_is_err_and c.from_residual-in_err-check_free.result c.from_residual-in_err-check_free.ensures.1 in
    went_on (λ files (found : Rip × Shape). opened_of found.0 files) (measured c.args.input.now) (checked count rec) h0 _ c.open_measured.result (rip, c.in_ok-rip.shape) c.from_residual-in_err-check_free.result
    (search rules) c.open_measured.ensures.answer
    (stopped (λ _ _. tt) (free (name ∷ []) rip.names) (λ files _ o. o ≡ registered name count (opened_of rip files)) _ _ h0 _ c.check_free.result p.0 c.from_residual-in_err-check_free.result
    (search rules) p.1 (c.check_free.ensures.only.same ∙ c.open_measured.ensures.only.same) c.check_free.ensures.cause (free_told name rip.names h0 c.check_free.result (rw (c.open_measured.ensures.only.same, read, named) at c.check_free.ensures.answer)))

pub returns-clause-leaves : goal.returns-clause-leaves
returns-clause-leaves g c =
    let h0 = g.S.Shelf.held c.args.shelf.now in
    let rec = c.args.rec.now in
    let count = parity_words c.args.npar in
    let rip = c.in_ok-rip.rip in
    let name = record_name_of rec (toc_of rip.layout) in
    let named : c.as_str-3.result.now ≡ name = search rules in
    let read : c.is_among-is_read.result ≡ list_any (bytes_eq (part_of name)) rip.names = search rules in
    let kept : c.as_str-6.result.now ≡ name = search rules in
    went_on (λ files (found : Rip × Shape). opened_of found.0 files) (measured c.args.input.now) (checked count rec) h0 _ c.open_measured.result (rip, c.in_ok-rip.shape) c.store.result
    (search rules) c.open_measured.ensures.answer
    (went_on (λ _ _. tt) (free (name ∷ []) rip.names) (λ files _ o. o ≡ registered name count (opened_of rip files)) h0 _ c.check_free.result c.in_ok-check_free.field-0 c.store.result
    (search rules) (free_told name rip.names h0 c.check_free.result (rw (c.open_measured.ensures.only.same, read, named) at c.check_free.ensures.answer)) (rw (c.check_free.ensures.only.same, c.open_measured.ensures.only.same, kept) at c.store.ensures.leaves))

abbrev rip_bytes : List ℕ → Files → ℕ
rip_bytes input files = lengths_of (names_read input files) files

pub returns-clause-taken : goal.returns-clause-taken
returns-clause-taken g c =
    let h0 = g.S.Shelf.held c.args.shelf.now in
    let input = c.args.input.now in
    let rip = c.in_ok-rip.rip in
    let view : Files → Rip × Shape → Opened = λ files found. opened_of found.0 files in
    takes_last h0 _ (rip_bytes input) (λ _. 2 * word_count rip.image) (λ files. 3 * rip_bytes input files) _ _ _ c.store.result (c.check_free.ensures.only.same ∙ c.open_measured.ensures.only.same)
    (rw c.check_free.ensures.taken (more_so_far h0 h0 (λ _. 0) (rip_bytes input) (rip_bytes input) _ _ _ c.open_measured.result (rip, c.in_ok-rip.shape) (search rules) refl (none_so_far h0 _) c.open_measured.ensures.taken (λ files told. omega arith)))
    (if_told _ _ (λ _ _. c.store.ensures.taken))
    (λ files told.
    let read : measured input files ≡ Ok (opened_of rip files) = found_told h0 view (measured input) c.open_measured.result (rip, c.in_ok-rip.shape) (search rules) c.open_measured.ensures.answer files told in
    omega (arith, measured_room input files (opened_of rip files) read, c.in_ok-rip.ensures.count, c.in_ok-rip.ensures.shape))

pub returns-in_err-check_free-clause-taken : goal.returns-in_err-check_free-clause-taken
returns-in_err-check_free-clause-taken g c =
    let h0 = g.S.Shelf.held c.args.shelf.now in
    let input = c.args.input.now in
    takes_so_far h0 (λ files. 3 * rip_bytes input files) _ _ _
    (rw c.check_free.ensures.taken (more_so_far h0 h0 (λ _. 0) (rip_bytes input) (λ files. 3 * rip_bytes input files) _ _ _ c.open_measured.result (c.in_ok-rip.rip, c.in_ok-rip.shape) (search rules) refl (none_so_far h0 _) c.open_measured.ensures.taken (λ files told. omega arith)))

pub returns-in_err-check_free-clause-crashes : goal.returns-in_err-check_free-clause-crashes
returns-in_err-check_free-clause-crashes g c = safe_rests _ _ _ _ (told_rests_twice _ _ _ c.open_measured.ensures.only.crashes c.check_free.ensures.only.crashes)

pub returns-clause-crashes : goal.returns-clause-crashes
returns-clause-crashes g c =
    let tells = g.met.S.Shelf.tells_held in
    let h0 = g.S.Shelf.held c.args.shelf.now in
    let input = c.args.input.now in
    let rec = c.args.rec.now in
    let count = parity_words c.args.npar in
    let rip = c.in_ok-rip.rip in
    let name = record_name_of rec (toc_of rip.layout) in
    let named : c.as_str-3.result.now ≡ name = search rules in
    let read : c.is_among-is_read.result ≡ list_any (bytes_eq (part_of name)) rip.names = search rules in
    let kept : c.as_str-6.result.now ≡ name = search rules in
    let same = c.check_free.ensures.only.same ∙ c.open_measured.ensures.only.same in
    let rests = told_rests_twice _ _ _ c.open_measured.ensures.only.crashes c.check_free.ensures.only.crashes in
    let view : Files → Rip × Shape → Opened = λ files found. opened_of found.0 files in
    let found : (files : Files) → h0 ≡ Some files → measured input files ≡ Ok (opened_of rip files) = λ files told. found_told h0 view (measured input) c.open_measured.result (rip, c.in_ok-rip.shape) (search rules) c.open_measured.ensures.answer files told in
    let is_free : (files : Files) → h0 ≡ Some files → free (name ∷ []) rip.names files ≡ Ok tt = λ files told.
    found_told h0 (λ _ _. tt) (free (name ∷ []) rip.names) c.check_free.result c.in_ok-check_free.field-0 (search rules) (free_told name rip.names h0 c.check_free.result (rw (c.open_measured.ensures.only.same, read, named) at c.check_free.ensures.answer)) files told in
    safe_after (IsRegisterOutcome input rec count) _ _ _ _ rests
    (safe_weaker (λ files o. o ≡ registered name count (opened_of rip files)) (IsRegisterOutcome input rec count) _ _ _ _ _ (tells c.check_free.new.shelf) (tells c.store.new.shelf)
    (λ files told o is. register_meets input rec count (opened_of rip files) files o (found files (sym same ∙ told)) (is_free files (sym same ∙ told)) is) (rw kept at c.store.ensures.crashes))
