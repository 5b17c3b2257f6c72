use Rattle.std.proofs.Common.{◌≡◌, ◌∙◌, ◌*◌, List, ℕ, ℤ, Result, Ok, Err, ap, rules, subst, sym, w32, to_z, of_z}
use Rattle.std.specs.Prelude.{IfSome}
use Rattle.std.proofs.lemmas.Result.{err_from_is_err_and}
use Rattle.rip_outside.specs.Files.{Files}
use Rattle.rip_outside.proofs.FilesLaws.{if_told_both}
use Rattle.rip_outside.proofs.ReadingLaws.{reads_twice}
use Rattle.column_map.specs.Columns.{IsOffset, WordTable, per_column}
use Rattle.column_map.specs.Mending.{AreFixes}
use Rattle.image_mender.specs.Joined.{joined_words, word_count}
use Rattle.offset_slide.specs.Slides.{KeptRows}
use Rattle.offset_search.specs.Near.{Fits, IsNear}
use Rattle.engine_steps.specs.Steps.{Known, known_from}
use Rattle.engine_steps.proofs.ComparedLaws.{few_words}
use Rattle.engine_steps.proofs.TakingLaws.{found_at}
use Rattle.engine_steps.specs.declared.steps.Stop.{Stop}
use Rattle.engine_search.specs.declared.picking.Picked.{Picked}
use Rattle.engine_search.specs.Agreement.{TakesSealing}
use Rattle.engine_search.specs.Picking.{Mends, Picks, StandFor}
use Rattle.engine_search.proofs.PickLaws.{fixes_covered, mends_of, offset_kept}
use Rattle.engine_search.proofs.SealingLaws.{first_stopped, first_went}
use Rattle.engine_search.proofs.picking.mend.Goals as goal

pub returns-in_err-at-clause-only : goal.returns-in_err-at-clause-only
returns-in_err-at-clause-only g c = reads_twice _ _ _ _ c.in_ok-search.ensures.only c.pick_in.ensures.only

pub returns-in_err-fixes-clause-only : goal.returns-in_err-fixes-clause-only
returns-in_err-fixes-clause-only g c = reads_twice _ _ _ _ c.in_ok-search.ensures.only c.pick_in.ensures.only

pub returns-clause-only : goal.returns-clause-only
returns-clause-only g c = reads_twice _ _ _ _ c.in_ok-search.ensures.only c.pick_in.ensures.only

-- the words of the rip, and where it is near
pub fixes_at-requires : goal.fixes_at-requires
fixes_at-requires g c =
    let s = c.in_ok-search.ensures.stands in
    let at = c.in_ok-at.at in
    let near = c.in_ok-at.ensures.near s.0 s.1 in
    let same : to_z w32 (of_z w32 at.offset) ≡ at.offset = offset_kept at.offset near.0 in
    let after : StandFor g.row.P c.pick_in.new.search.starts s.0 = subst (λ starts. StandFor g.row.P starts s.0) (sym c.pick_in.ensures.starts) s.1 in
    let sectors : c.args.shape ≡ c.pick_in.new.search.starts.sectors = sym (ap (λ (kept : KeptRows). kept.sectors) c.pick_in.ensures.starts ∙ c.in_ok-search.ensures.sectors) in
    let N : ℕ → List (List ℕ) → ℤ → Type 0 = λ n wanted d. IsNear g.row.P (per_column n) s.0 d wanted in
    let there : N c.pick_in.new.search.starts.sectors c.pick_in.new.search.wanted (to_z w32 (of_z w32 at.offset)) =
    subst (λ n. N n c.pick_in.new.search.wanted (to_z w32 (of_z w32 at.offset))) sectors
    (subst (λ wanted. N c.args.shape wanted (to_z w32 (of_z w32 at.offset))) (sym c.pick_in.ensures.wanted) (subst (N c.args.shape c.in_ok-search.search.wanted) (sym same) near.1)) in
    (search rules, (search rules, (search rules, (subst IsOffset (sym same) near.0, (s.0, after, there)))))

pub returns-clause-lie : goal.returns-clause-lie
returns-clause-lie g c =
    let s = c.in_ok-search.ensures.stands in
    let at = c.in_ok-at.at in
    let near = c.in_ok-at.ensures.near s.0 s.1 in
    let same : to_z w32 (of_z w32 at.offset) ≡ at.offset = offset_kept at.offset near.0 in
    let after : StandFor g.row.P c.pick_in.new.search.starts s.0 = subst (λ starts. StandFor g.row.P starts s.0) (sym c.pick_in.ensures.starts) s.1 in
    let sectors : c.pick_in.new.search.starts.sectors ≡ c.args.shape = ap (λ (kept : KeptRows). kept.sectors) c.pick_in.ensures.starts ∙ c.in_ok-search.ensures.sectors in
    let found = c.in_ok-fixes.ensures s.0 after in
    let F : ℕ → ℤ → Type 0 = λ n d. AreFixes (per_column n) s.0 d found.0 c.in_ok-fixes.fixes.items in
    let own : F c.args.shape at.offset = subst (F c.args.shape) same (subst (λ n. F n (to_z w32 (of_z w32 at.offset))) sectors found.2) in
    fixes_covered (per_column c.args.shape) s.0 at.offset found.0 c.in_ok-fixes.fixes.items near.0 own

pub returns-clause-fixes : goal.returns-clause-fixes
returns-clause-fixes g c =
    let s = c.in_ok-search.ensures.stands in
    let at = c.in_ok-at.at in
    let h0 = g.S.Shelf.held c.args.shelf.now in
    let known : List (List ℕ) → List ℕ → Known = λ wanted y. known_from c.args.shape y g.row.P wanted c.args.seal in
    let near = c.in_ok-at.ensures.near s.0 s.1 in
    let same : to_z w32 (of_z w32 at.offset) ≡ at.offset = offset_kept at.offset near.0 in
    let after : StandFor g.row.P c.pick_in.new.search.starts s.0 = subst (λ starts. StandFor g.row.P starts s.0) (sym c.pick_in.ensures.starts) s.1 in
    let sectors : c.pick_in.new.search.starts.sectors ≡ c.args.shape = ap (λ (kept : KeptRows). kept.sectors) c.pick_in.ensures.starts ∙ c.in_ok-search.ensures.sectors in
    let wanted : c.pick_in.new.search.wanted ≡ c.args.wanted = c.pick_in.ensures.wanted ∙ c.in_ok-search.ensures.wanted in
    let F : ℕ → ℤ → List (List ℕ) → Type 0 = λ n d stored. (table : WordTable) × Fits g.row.P (per_column n) s.0 d stored table × AreFixes (per_column n) s.0 d table c.in_ok-fixes.fixes.items in
    let found : F c.args.shape at.offset c.args.wanted = subst (F c.args.shape at.offset) wanted (subst (λ d. F c.args.shape d c.pick_in.new.search.wanted) same (subst (λ n. F n (to_z w32 (of_z w32 at.offset)) c.pick_in.new.search.wanted) sectors (c.in_ok-fixes.ensures s.0 after))) in
    let Picked : List (List ℕ) → Type 0 = λ stored. IfSome (g.S.Shelf.held c.search_rip.new.shelf) (λ files. Picks c.args.offset (known stored (joined_words c.args.image.now files)) (Ok at)) in
    let told : IfSome (g.S.Shelf.held c.search_rip.new.shelf) (λ files. Picks c.args.offset (known c.args.wanted (joined_words c.args.image.now files)) (Ok at)) = subst Picked c.in_ok-search.ensures.wanted c.in_ok-at.ensures.picks in
    if_told_both h0 (λ files. s.0 ≡ joined_words c.args.image.now files) (λ files. Picks c.args.offset (known c.args.wanted (joined_words c.args.image.now files)) (Ok at)) _
    (λ files is picks. subst (λ (w : List ℕ). Mends (known c.args.wanted w) at c.in_ok-fixes.fixes.items) is
    (mends_of c.args.offset (known c.args.wanted s.0) at c.in_ok-fixes.fixes.items (few_words (known c.args.wanted s.0) c.requires.range) (subst (λ (w : List ℕ). Picks c.args.offset (known c.args.wanted w) (Ok at)) (sym is) picks) found))
    s.2 (rw c.in_ok-search.ensures.only.same at told)

pub returns-in_err-at-clause-taken : goal.returns-in_err-at-clause-taken
returns-in_err-at-clause-taken g c =
    let known : List (List ℕ) → Files → Known = λ wanted files. known_from c.args.shape (joined_words c.args.image.now files) g.row.P wanted c.args.seal in
    let each : ℕ = 2 * word_count c.args.image.now in
    let Of : List (List ℕ) → Type 0 = λ wanted. IfSome (g.S.Shelf.held c.search_rip.new.shelf) (λ files. TakesSealing c.args.offset (known wanted files) 0 each c.pick_in.result (g.S.Shelf.taken c.search_rip.new.shelf) (g.S.Shelf.taken c.pick_in.new.shelf)) in
    let p = err_from_is_err_and c.from_residual-in_err-at.result c.from_residual-in_err-at.ensures.1 in
    first_stopped (g.S.Shelf.held c.args.shelf.now) _ c.args.offset (known c.args.wanted) each _ _ _ c.pick_in.result c.in_ok-search.ensures.only.same
    (found_at each _ _ c.search_rip.result c.in_ok-search.search c.in_ok-search.was c.search_rip.ensures.taken)
    (subst Of c.in_ok-search.ensures.wanted c.pick_in.ensures.taken) c.in_err-at.field-0.0 c.from_residual-in_err-at.result c.in_err-at.was (p.1 ∙ ap Err p.2)

pub returns-in_err-fixes-clause-taken : goal.returns-in_err-fixes-clause-taken
returns-in_err-fixes-clause-taken g c =
    let known : List (List ℕ) → Files → Known = λ wanted files. known_from c.args.shape (joined_words c.args.image.now files) g.row.P wanted c.args.seal in
    let each : ℕ = 2 * word_count c.args.image.now in
    let Of : List (List ℕ) → Type 0 = λ wanted. IfSome (g.S.Shelf.held c.search_rip.new.shelf) (λ files. TakesSealing c.args.offset (known wanted files) 0 each c.pick_in.result (g.S.Shelf.taken c.search_rip.new.shelf) (g.S.Shelf.taken c.pick_in.new.shelf)) in
    first_went (g.S.Shelf.held c.args.shelf.now) _ c.args.offset (known c.args.wanted) each _ _ _ c.pick_in.result c.in_ok-search.ensures.only.same
    (found_at each _ _ c.search_rip.result c.in_ok-search.search c.in_ok-search.was c.search_rip.ensures.taken)
    (subst Of c.in_ok-search.ensures.wanted c.pick_in.ensures.taken) c.in_ok-at.at c.from_residual-in_err-fixes.result c.in_ok-at.was

pub returns-clause-taken : goal.returns-clause-taken
returns-clause-taken g c =
    let known : List (List ℕ) → Files → Known = λ wanted files. known_from c.args.shape (joined_words c.args.image.now files) g.row.P wanted c.args.seal in
    let each : ℕ = 2 * word_count c.args.image.now in
    let Of : List (List ℕ) → Type 0 = λ wanted. IfSome (g.S.Shelf.held c.search_rip.new.shelf) (λ files. TakesSealing c.args.offset (known wanted files) 0 each c.pick_in.result (g.S.Shelf.taken c.search_rip.new.shelf) (g.S.Shelf.taken c.pick_in.new.shelf)) in
    let result : Result Picked Stop = Ok record { at = c.in_ok-at.at; fixes = c.in_ok-fixes.fixes } in
    first_went (g.S.Shelf.held c.args.shelf.now) _ c.args.offset (known c.args.wanted) each _ _ _ c.pick_in.result c.in_ok-search.ensures.only.same
    (found_at each _ _ c.search_rip.result c.in_ok-search.search c.in_ok-search.was c.search_rip.ensures.taken)
    (subst Of c.in_ok-search.ensures.wanted c.pick_in.ensures.taken) c.in_ok-at.at result c.in_ok-at.was
