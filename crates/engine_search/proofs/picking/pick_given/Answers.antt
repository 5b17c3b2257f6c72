use Rattle.std.proofs.Common.{◌≡◌, ◌∙◌, ◌+◌, ◌*◌, List, ℕ, ℤ, Ok, Err, Some, true, false, ap, rules, subst, sym, w32, to_z, of_z}
use Rattle.std.specs.Prelude.{◌↔◌, IfSome, IsTrue}
use Rattle.std.proofs.lemmas.Int.{to_z-of_z}
use Rattle.std.proofs.lemmas.Result.{err_from_is_err_and}
use Rattle.rip_outside.specs.Files.{Files}
use Rattle.rip_outside.proofs.FilesLaws.{if_told, if_told_both}
use Rattle.column_map.specs.Columns.{IsOffset, WordTable, per_column}
use Rattle.column_map.specs.declared.candidate.Candidate.{Candidate}
use Rattle.offset_slide.specs.Slides.{KeptRows}
use Rattle.image_mender.specs.Joined.{joined_words, word_count}
use Rattle.offset_search.specs.Near.{Fits, IsCandidate, IsNear, damaged_columns, error_count}
use Rattle.rip_report.specs.declared.status.Status.TheVariants.{SealDiffers}
use Rattle.engine_steps.specs.Steps.{Known, known_from}
use Rattle.engine_steps.proofs.ComparedLaws.{few_words}
use Rattle.engine_steps.proofs.TakingLaws.{found_at, stopped_takes}
use Rattle.engine_search.specs.Agreement.{Agrees}
use Rattle.engine_search.specs.Picking.{Picks, StandFor}
use Rattle.engine_search.proofs.AgreementLaws.{agreeing_of}
use Rattle.engine_search.proofs.SealingLaws.{given_takes}
use Rattle.engine_search.proofs.picking.pick_given.Goals as goal

pub agrees_given-requires : goal.agrees_given-requires
agrees_given-requires g c =
    let s = c.requires.stands in
    let now = c.near_at.new.self in
    let same : to_z w32 (of_z w32 c.args.d) ≡ c.args.d = to_z-of_z w32 c.args.d c.ranges.d in
    let offset : IsOffset (to_z w32 (of_z w32 c.args.d)) = subst IsOffset (sym same) c.requires.offset in
    let sectors : now.starts.sectors ≡ c.args.shape = ap (λ (kept : KeptRows). kept.sectors) c.in-Ok.ensures.starts ∙ c.requires.sectors in
    let here : StandFor g.row.P now.starts s.0 = subst (λ starts. StandFor g.row.P starts s.0) (sym c.in-Ok.ensures.starts) s.1 in
    let near : (y : List ℕ) → StandFor g.row.P now.starts y → IsNear g.row.P (per_column c.args.shape) y (to_z w32 (of_z w32 c.args.d)) now.wanted = λ y st.
    let n = c.in-Ok.ensures.near y (subst (λ starts. StandFor g.row.P starts y) c.in-Ok.ensures.starts st) in
    let N : ℕ → List (List ℕ) → Type 0 = λ sectors wanted. IsNear g.row.P (per_column sectors) y (to_z w32 (of_z w32 c.args.d)) wanted in
    subst (N c.args.shape) (sym c.in-Ok.ensures.wanted) (subst (λ sectors. N sectors c.args.search.now.wanted) c.requires.sectors (n.0, n.1)) in
    (search rules, (search rules, (search rules, (offset, (c.requires.inside, (c.requires.count, (c.requires.range, (sectors, ((s.0, here), near)))))))))

pub returns-in_err-agrees_given-in-Ok-clause-taken : goal.returns-in_err-agrees_given-in-Ok-clause-taken
returns-in_err-agrees_given-in-Ok-clause-taken g c =
    let known : Files → Known = λ files. known_from c.args.shape (joined_words c.args.image.now files) g.row.P c.args.search.now.wanted c.args.seal in
    let each : ℕ = 2 * word_count c.args.image.now in
    let p = err_from_is_err_and c.from_residual.result c.from_residual.ensures.1 in
    if_told (g.S.Shelf.held c.args.shelf.now) _ (λ files told times reads.
    stopped_takes ((0 + times) * each) _ _ c.agrees_given.result c.in_err-agrees_given-in-Ok.field-0.0 c.from_residual.result c.in_err-agrees_given-in-Ok.was (p.1 ∙ ap Err p.2)
    (given_takes (known files) c.args.d times each _ _ c.agrees_given.result reads c.agrees_given.ensures.taken))

pub returns-then-not-branch-clause-taken : goal.returns-then-not-branch-clause-taken
returns-then-not-branch-clause-taken g c =
    let known : Files → Known = λ files. known_from c.args.shape (joined_words c.args.image.now files) g.row.P c.args.search.now.wanted c.args.seal in
    let each : ℕ = 2 * word_count c.args.image.now in
    if_told (g.S.Shelf.held c.args.shelf.now) _ (λ files told times reads.
    found_at ((0 + times) * each) _ _ c.agrees_given.result c.in_ok-agrees_given-in-Ok.field-0 c.in_ok-agrees_given-in-Ok.was
    (given_takes (known files) c.args.d times each _ _ c.agrees_given.result reads c.agrees_given.ensures.taken))

pub returns-else-not-branch-clause-taken : goal.returns-else-not-branch-clause-taken
returns-else-not-branch-clause-taken g c =
    let known : Files → Known = λ files. known_from c.args.shape (joined_words c.args.image.now files) g.row.P c.args.search.now.wanted c.args.seal in
    let each : ℕ = 2 * word_count c.args.image.now in
    if_told (g.S.Shelf.held c.args.shelf.now) _ (λ files told times reads.
    found_at ((0 + times) * each) _ _ c.agrees_given.result c.in_ok-agrees_given-in-Ok.field-0 c.in_ok-agrees_given-in-Ok.was
    (given_takes (known files) c.args.d times each _ _ c.agrees_given.result reads c.agrees_given.ensures.taken))

pub returns-then-not-branch-clause-picks : goal.returns-then-not-branch-clause-picks
returns-then-not-branch-clause-picks g c =
    let known : List ℕ → Known = λ y. known_from c.args.shape y g.row.P c.args.search.now.wanted c.args.seal in
    let s = c.requires.stands in
    let same : to_z w32 (of_z w32 c.args.d) ≡ c.args.d = to_z-of_z w32 c.args.d c.ranges.d in
    let n = c.in-Ok.ensures.near s.0 s.1 in
    let N : ℕ → ℤ → Type 0 = λ sectors d. IsNear g.row.P (per_column sectors) s.0 d c.args.search.now.wanted in
    let here : N c.args.search.now.starts.sectors (to_z w32 (of_z w32 c.args.d)) = (n.0, n.1) in
    let near : N c.args.shape c.args.d = subst (N c.args.shape) same (subst (λ sectors. N sectors (to_z w32 (of_z w32 c.args.d))) c.requires.sectors here) in
    let no : c.in_ok-agrees_given-in-Ok.field-0 ≡ false = search rules in
    let Has : ℤ → Files → Type 0 = λ d files. s.0 ≡ joined_words c.args.image.now files → IsTrue c.in_ok-agrees_given-in-Ok.field-0 ↔ Agrees (known s.0) d in
    let has : IfSome (g.S.Shelf.held c.args.shelf.now) (Has c.args.d) = rw (same, c.in-Ok.ensures.wanted) at (c.in_ok-agrees_given-in-Ok.ensures.agrees s.0 (subst (λ starts. StandFor g.row.P starts s.0) (sym c.in-Ok.ensures.starts) s.1)) in
    if_told_both (g.S.Shelf.held c.args.shelf.now) (λ files. s.0 ≡ joined_words c.args.image.now files) (Has c.args.d) _
    (λ files is agrees. subst (λ (w : List ℕ). Picks (Some c.args.d) (known w) (Err SealDiffers)) is
    (near, λ a. let yes : IsTrue c.in_ok-agrees_given-in-Ok.field-0 = (agrees is).1 a in let clash : true ≡ false = sym yes ∙ no in cc))
    s.2 has

pub returns-else-not-branch-clause-picks : goal.returns-else-not-branch-clause-picks
returns-else-not-branch-clause-picks g c =
    let known : List ℕ → Known = λ y. known_from c.args.shape y g.row.P c.args.search.now.wanted c.args.seal in
    let s = c.requires.stands in
    let d : ℤ = to_z w32 (of_z w32 c.args.d) in
    let same : d ≡ c.args.d = to_z-of_z w32 c.args.d c.ranges.d in
    let at : Candidate = record { offset = d; errors = c.in-Ok.near.errors; columns = c.in-Ok.near.columns } in
    let Near : ℕ → Type 0 = λ sectors. (table : WordTable) × Fits g.row.P (per_column sectors) s.0 d c.args.search.now.wanted table × (c.in-Ok.near.errors ≡ error_count (per_column sectors) s.0 d table) × (c.in-Ok.near.columns ≡ damaged_columns (per_column sectors) s.0 d table) in
    let n : Near c.args.shape = subst Near c.requires.sectors (c.in-Ok.ensures.near s.0 s.1) in
    let candidate : IsCandidate g.row.P (per_column c.args.shape) s.0 c.args.search.now.wanted at = record { offset = subst IsOffset (sym same) c.requires.offset; table = n.0; fits = n.1; errors = n.2; columns = n.3 } in
    let yes : c.in_ok-agrees_given-in-Ok.field-0 ≡ true = search rules in
    let Has : Files → Type 0 = λ files. s.0 ≡ joined_words c.args.image.now files → IsTrue c.in_ok-agrees_given-in-Ok.field-0 ↔ Agrees (known s.0) d in
    let has : IfSome (g.S.Shelf.held c.args.shelf.now) Has = rw c.in-Ok.ensures.wanted at (c.in_ok-agrees_given-in-Ok.ensures.agrees s.0 (subst (λ starts. StandFor g.row.P starts s.0) (sym c.in-Ok.ensures.starts) s.1)) in
    if_told_both (g.S.Shelf.held c.args.shelf.now) (λ files. s.0 ≡ joined_words c.args.image.now files) Has _
    (λ files is agrees. subst (λ (w : List ℕ). Picks (Some c.args.d) (known w) (Ok at)) is
    (same, agreeing_of (known s.0) (few_words (known s.0) c.requires.range) at candidate ((agrees is).0 yes)))
    s.2 has

pub returns-else-not-branch-clause-near : goal.returns-else-not-branch-clause-near
returns-else-not-branch-clause-near g c = λ y st.
    let d : ℤ = to_z w32 (of_z w32 c.args.d) in
    let same : d ≡ c.args.d = to_z-of_z w32 c.args.d c.ranges.d in
    let n = c.in-Ok.ensures.near y st in
    let N : ℕ → Type 0 = λ sectors. IsNear g.row.P (per_column sectors) y d c.args.search.now.wanted in
    (subst IsOffset (sym same) c.requires.offset, subst N c.requires.sectors (n.0, n.1))
