use Rattle.std.proofs.Common.{◌≡◌, ◌⊎◌, ◌∙◌, ◌+◌, ◌*◌, ◌≤◌, ◌++◌, ℕ, List, [], ◌∷◌, length, Ok, Err, None, Some, ap, arith, inl, inr, refl, rules, subst, sym, ℤ, pos, ◌+ℤ◌, ◌<ℤ◌, w32, to_z, of_z, vec_len}
use Rattle.std.proofs.lemmas.Int.{ints}
use Rattle.std.proofs.lemmas.Result.{err_from_is_err_and}
use Rattle.std.specs.Prelude.{All, IfSome}
use Rattle.std.proofs.lemmas.List.Elements.{All-nil}
use Rattle.rip_outside.specs.Files.{Files}
use Rattle.rip_outside.proofs.FilesLaws.{if_told, if_told_both, if_told_weaker}
use Rattle.rip_outside.proofs.ReadingLaws.{reads_none, reads_twice}
use Rattle.column_map.specs.Columns.{IsOffset, per_column}
use Rattle.image_mender.specs.Joined.{AreInFiles, joined_words, word_count}
use Rattle.offset_slide.specs.Slides.{KeptRows}
use Rattle.offset_search.specs.Near.{IsFirstNear, IsNear, IsNextNear}
use Rattle.engine_steps.specs.Steps.{Known, known_from}
use Rattle.engine_steps.proofs.ComparedLaws.{few_words}
use Rattle.engine_steps.proofs.TakingLaws.{stopped_takes, takes_after, takes_within}
use Rattle.engine_search.specs.Agreement.{AreFirstAgreeing, TakesSealing}
use Rattle.engine_search.specs.Picking.{IsNearAt, LooksAgreeing, StandFor, seal_cost}
use Rattle.engine_search.proofs.AgreementLaws.{added_near, AreFoundBelow, AreNearBelow, found_first, found_last, found_none, looked_at, near_more, near_none}
use Rattle.engine_search.proofs.PickLaws.{behind, next_fits, next_offset, passed}
use Rattle.engine_search.proofs.SealingLaws.{fits_so, later_stop, more_cost, reads_bound}
use Rattle.engine_search.proofs.agreeing.agreeing.Goals as goal
use Rattle.engine_search.proofs.agreeing.agreeing.Goals.{then-offsets-test+else-len-limit, else-offsets-test}

pub offsets-init : goal.offsets-init
offsets-init g c =
    let known : List ℕ → Known = λ y. known_from c.args.shape y g.row.P c.args.search.now.wanted c.args.seal in
    let none : c.new-found.result.items ≡ [] = search rules in
    let empty : vec_len c.new-found.result ≡ 0 = search rules in
    record {
      least = omega (arith, ints);
      most = omega (arith, ints);
      words = search rules;
      bytes = search rules;
      few = omega (arith, empty);
      starts = refl;
      wanted = refl;
      only = reads_none g.S.Shelf c.args.shelf.now;
      near = λ y stands. subst (All (IsNearAt g.row.P (per_column c.args.shape) y c.args.search.now.wanted)) (sym none) (All-nil (IsNearAt g.row.P (per_column c.args.shape) y c.args.search.now.wanted));
      found = λ y stands. if_told (g.S.Shelf.held c.args.shelf.now) _ (λ files told is. found_none (known y) c.new-found.result.items _ none refl);
      taken = λ y stands. ([], near_none (known y) [] _ refl, omega arith);
    }

-- what a look at the next near offset finds
pub returns-in_default-clause-found : goal.returns-in_default-clause-found
returns-in_default-clause-found g c =
    let known : List ℕ → Known = λ y. known_from c.args.shape y g.row.P c.args.search.now.wanted c.args.seal in
    let from : ℤ = to_z w32 c.offsets.from-bits in
    let s = c.requires.stands in
    let looked : IsNextNear g.row.P (per_column c.args.shape) s.0 c.args.search.now.wanted from None = rw (c.offsets.invariant.starts, c.offsets.invariant.wanted, c.requires.sectors) at (c.in_default.ensures.next s.0 (subst (λ starts. StandFor g.row.P starts s.0) (sym c.offsets.invariant.starts) s.1)) in
    if_told_both (g.S.Shelf.held c.args.shelf.now) (λ files. s.0 ≡ joined_words c.args.image.now files) (λ files. s.0 ≡ joined_words c.args.image.now files → AreFoundBelow (known s.0) from c.offsets.found.items) _
    (λ files is so. subst (λ (w : List ℕ). AreFirstAgreeing c.args.limit (known w) c.offsets.found.items) is
    (found_last (known s.0) (few_words (known s.0) c.requires.range) c.args.limit from c.offsets.found.items (omega (arith, c.offsets.invariant.few)) (so is) looked))
    s.2 (c.offsets.invariant.found s.0 s.1)

pub returns-clause-found : goal.returns-clause-found
returns-clause-found g c =
    let known : List ℕ → Known = λ y. known_from c.args.shape y g.row.P c.args.search.now.wanted c.args.seal in
    let from : ℤ = to_z w32 c.offsets.from-bits in
    let s = c.requires.stands in
    let ended : (pos 5879 <ℤ from) ⊎ (c.args.limit ≤ length c.offsets.found.items) = elim c.offsets-test.branch [
      | then-offsets-test+else-len-limit w ↦ inr (omega arith)
      | else-offsets-test w ↦ inl (omega (arith, ints))
    ] in
    if_told_both (g.S.Shelf.held c.args.shelf.now) (λ files. s.0 ≡ joined_words c.args.image.now files) (λ files. s.0 ≡ joined_words c.args.image.now files → AreFoundBelow (known s.0) from c.offsets.found.items) _
    (λ files is so. subst (λ (w : List ℕ). AreFirstAgreeing c.args.limit (known w) c.offsets.found.items) is
    (found_first (known s.0) c.args.limit from c.offsets.found.items (omega (arith, c.offsets.invariant.few)) ended (so is)))
    s.2 (c.offsets.invariant.found s.0 s.1)

-- the bytes that were taken where the search ends
pub returns-in_default-clause-taken : goal.returns-in_default-clause-taken
returns-in_default-clause-taken g c =
    let known : List ℕ → Known = λ y. known_from c.args.shape y g.row.P c.args.search.now.wanted c.args.seal in
    let from : ℤ = to_z w32 c.offsets.from-bits in
    let each : ℕ = 2 * word_count c.args.image.now in
    let s = c.requires.stands in
    let t = c.offsets.invariant.taken s.0 s.1 in
    if_told_weaker (g.S.Shelf.held c.args.shelf.now) (λ files. s.0 ≡ joined_words c.args.image.now files) _
    (λ files is. subst (λ (w : List ℕ). TakesSealing None (known w) 0 each (Ok c.offsets.found) (g.S.Shelf.taken c.args.shelf.now) (g.S.Shelf.taken c.offsets.shelf)) is
    (λ times reads. takes_within ((0 + times) * each) (g.S.Shelf.taken c.args.shelf.now) (g.S.Shelf.taken c.offsets.shelf) (Ok c.offsets.found) (let low = reads_bound (known s.0) from t.0 each times t.1 reads in omega (arith, low, t.2))))
    s.2

pub returns-clause-taken : goal.returns-clause-taken
returns-clause-taken g c =
    let known : List ℕ → Known = λ y. known_from c.args.shape y g.row.P c.args.search.now.wanted c.args.seal in
    let from : ℤ = to_z w32 c.offsets.from-bits in
    let each : ℕ = 2 * word_count c.args.image.now in
    let s = c.requires.stands in
    let t = c.offsets.invariant.taken s.0 s.1 in
    if_told_weaker (g.S.Shelf.held c.args.shelf.now) (λ files. s.0 ≡ joined_words c.args.image.now files) _
    (λ files is. subst (λ (w : List ℕ). TakesSealing None (known w) 0 each (Ok c.offsets.found) (g.S.Shelf.taken c.args.shelf.now) (g.S.Shelf.taken c.offsets.shelf)) is
    (λ times reads. takes_within ((0 + times) * each) (g.S.Shelf.taken c.args.shelf.now) (g.S.Shelf.taken c.offsets.shelf) (Ok c.offsets.found) (let low = reads_bound (known s.0) from t.0 each times t.1 reads in omega (arith, low, t.2))))
    s.2

pub returns-in_err-look_at-clause-only : goal.returns-in_err-look_at-clause-only
returns-in_err-look_at-clause-only g c = reads_twice _ _ _ _ c.offsets.invariant.only c.look_at.ensures.only

pub look_at-requires : goal.look_at-requires
look_at-requires g c =
    let s = c.requires.stands in
    let now = c.next_near.new.self in
    let starts : now.starts ≡ c.args.search.now.starts = c.in-Some.ensures.starts ∙ c.offsets.invariant.starts in
    let here : StandFor g.row.P now.starts s.0 = subst (λ starts. StandFor g.row.P starts s.0) (sym starts) s.1 in
    let old : StandFor g.row.P c.offsets.search.starts s.0 = subst (λ starts. StandFor g.row.P starts s.0) c.in-Some.ensures.starts here in
    let sectors : now.starts.sectors ≡ c.args.shape = ap (λ (kept : KeptRows). kept.sectors) starts ∙ c.requires.sectors in
    let near : (y : List ℕ) → StandFor g.row.P now.starts y → IsNear g.row.P (per_column c.args.shape) y c.in-Some.at.offset now.wanted = λ y st.
    let first = c.in-Some.ensures.next y (subst (λ starts. StandFor g.row.P starts y) c.in-Some.ensures.starts st) in
    let N : ℕ → List (List ℕ) → Type 0 = λ n wanted. IsNear g.row.P (per_column n) y c.in-Some.at.offset wanted in
    let before : N c.offsets.search.starts.sectors c.offsets.search.wanted = (first.candidate.table, first.candidate.fits) in
    subst (N c.args.shape) (sym c.in-Some.ensures.wanted)
    (subst (λ n. N n c.offsets.search.wanted) (ap (λ (kept : KeptRows). kept.sectors) c.offsets.invariant.starts ∙ c.requires.sectors) before) in
    let offset : IsOffset c.in-Some.at.offset = (c.in-Some.ensures.next s.0 old).candidate.offset in
    let inside : (files : Files) → g.S.Shelf.held c.offsets.shelf ≡ Some files → AreInFiles c.args.image.now files = λ files told. c.requires.inside files (sym c.offsets.invariant.only.same ∙ told) in
    (search rules, (search rules, (search rules, (offset, (inside, (search rules, (search rules, (sectors, (search rules, (search rules, (search rules, ((s.0, here), near))))))))))))

-- the next offset is looked at from the one behind this on
pub overflow_add-from : goal.overflow_add-from
overflow_add-from g c =
    let s = c.requires.stands in
    let here = subst (λ starts. StandFor g.row.P starts s.0) (sym c.offsets.invariant.starts) s.1 in
    let own : IsOffset c.in-Some.at.offset = (c.in-Some.ensures.next s.0 here).candidate.offset in
    next_fits c.in-Some.at.offset own

pub offsets-smaller : goal.offsets-smaller
offsets-smaller g c =
    let s = c.requires.stands in
    let here = subst (λ starts. StandFor g.row.P starts s.0) (sym c.offsets.invariant.starts) s.1 in
    let first = c.in-Some.ensures.next s.0 here in
    let own : IsOffset c.in-Some.at.offset = first.candidate.offset in
    passed (to_z w32 c.offsets.from-bits) c.in-Some.at.offset _ first.later own (next_offset c.in-Some.at.offset own)

pub offsets-preserved : goal.offsets-preserved
offsets-preserved g c =
    let known : List ℕ → Known = λ y. known_from c.args.shape y g.row.P c.args.search.now.wanted c.args.seal in
    let from : ℤ = to_z w32 c.offsets.from-bits in
    let each : ℕ = 2 * word_count c.args.image.now in
    let at = c.in-Some.at in
    let to : ℤ = to_z w32 (of_z w32 (to_z w32 (of_z w32 at.offset) +ℤ pos 1)) in
    let s = c.requires.stands in
    let there : (y : List ℕ) → StandFor g.row.P c.args.search.now.starts y → StandFor g.row.P c.offsets.search.starts y = λ y st. subst (λ starts. StandFor g.row.P starts y) (sym c.offsets.invariant.starts) st in
    let first : (y : List ℕ) → StandFor g.row.P c.args.search.now.starts y → IsFirstNear g.row.P (per_column c.args.shape) y c.args.search.now.wanted from at = λ y st.
    rw (c.offsets.invariant.starts, c.offsets.invariant.wanted, c.requires.sectors) at (c.in-Some.ensures.next y (there y st)) in
    let own : IsOffset at.offset = (first s.0 s.1).candidate.offset in
    let next : to ≡ at.offset +ℤ pos 1 = next_offset at.offset own in
    let ends = behind at.offset to own next in
    record {
      least = ends.0;
      most = ends.1;
      words = search rules;
      bytes = search rules;
      few = omega (arith, c.look_at.ensures.len);
      starts = c.look_at.ensures.starts ∙ c.in-Some.ensures.starts ∙ c.offsets.invariant.starts;
      wanted = c.look_at.ensures.wanted ∙ c.in-Some.ensures.wanted ∙ c.offsets.invariant.wanted;
      only = reads_twice _ _ _ _ c.offsets.invariant.only c.look_at.ensures.only;
      near = λ y st. added_near (IsNearAt g.row.P (per_column c.args.shape) y c.args.search.now.wanted) c.offsets.found.items c.look_at.new.found.items at (c.offsets.invariant.near y st) ((first y st).candidate.offset, ((first y st).candidate.table, (first y st).candidate.fits)) c.in_ok-look_at.ensures.adds;
      found = λ y st.
          let looks : IfSome (g.S.Shelf.held c.args.shelf.now) (λ files. y ≡ joined_words c.args.image.now files → LooksAgreeing (known y) at c.offsets.found.items c.look_at.new.found.items) =
          rw (c.offsets.invariant.only.same, c.in-Some.ensures.wanted, c.offsets.invariant.wanted) at (c.in_ok-look_at.ensures.looks y (subst (λ starts. StandFor g.row.P starts y) (sym c.in-Some.ensures.starts) (there y st))) in
          if_told_both (g.S.Shelf.held c.args.shelf.now) (λ files. y ≡ joined_words c.args.image.now files → AreFoundBelow (known y) from c.offsets.found.items) (λ files. y ≡ joined_words c.args.image.now files → LooksAgreeing (known y) at c.offsets.found.items c.look_at.new.found.items) _
          (λ files so looks is. looked_at (known y) (few_words (known y) c.requires.range) from to c.offsets.found.items c.look_at.new.found.items at (first y st) next (so is) (looks is))
          (c.offsets.invariant.found y st) looks;
      taken = λ y st.
          let t = c.offsets.invariant.taken y st in
          let f = first y st in
          let near = t.0 ++ at.offset ∷ [] in
          (near, near_more (known y) from to t.0 at.offset f.later next t.1 f.candidate.offset (f.candidate.table, f.candidate.fits), more_cost t.0 at.offset (seal_cost c.args.seal each) (g.S.Shelf.taken c.args.shelf.now) (g.S.Shelf.taken c.offsets.shelf) (g.S.Shelf.taken c.look_at.new.shelf) t.2 c.in_ok-look_at.ensures.taken);
    }

pub returns-in_err-look_at-clause-taken : goal.returns-in_err-look_at-clause-taken
returns-in_err-look_at-clause-taken g c =
    let known : List ℕ → Known = λ y. known_from c.args.shape y g.row.P c.args.search.now.wanted c.args.seal in
    let from : ℤ = to_z w32 c.offsets.from-bits in
    let each : ℕ = 2 * word_count c.args.image.now in
    let t0 = g.S.Shelf.taken c.args.shelf.now in
    let t1 = g.S.Shelf.taken c.offsets.shelf in
    let t2 = g.S.Shelf.taken c.look_at.new.shelf in
    let s = c.requires.stands in
    let here = subst (λ starts. StandFor g.row.P starts s.0) (sym c.offsets.invariant.starts) s.1 in
    let first : IsFirstNear g.row.P (per_column c.args.shape) s.0 c.args.search.now.wanted from c.in-Some.at = rw (c.offsets.invariant.starts, c.offsets.invariant.wanted, c.requires.sectors) at (c.in-Some.ensures.next s.0 here) in
    let t = c.offsets.invariant.taken s.0 s.1 in
    let d = c.in-Some.at.offset in
    let near = t.0 ++ d ∷ [] in
    let more : AreNearBelow (known s.0) (d +ℤ pos 1) near = near_more (known s.0) from (d +ℤ pos 1) t.0 d first.later refl t.1 first.candidate.offset (first.candidate.table, first.candidate.fits) in
    let p = err_from_is_err_and c.from_residual-in_err-look_at.result c.from_residual-in_err-look_at.ensures.1 in
    if_told_weaker (g.S.Shelf.held c.args.shelf.now) (λ files. s.0 ≡ joined_words c.args.image.now files) _
    (λ files is. subst (λ (w : List ℕ). TakesSealing None (known w) 0 each c.from_residual-in_err-look_at.result t0 t2) is
    (λ times reads.
    let low = reads_bound (known s.0) (d +ℤ pos 1) near each times more reads in
    stopped_takes ((0 + times) * each) t0 t2 c.look_at.result c.in_err-look_at.field-0.0 c.from_residual-in_err-look_at.result c.in_err-look_at.was (p.1 ∙ ap Err p.2)
    (takes_after (length t.0 * seal_cost c.args.seal each) (seal_cost c.args.seal each) ((0 + times) * each) t0 t1 t2 c.look_at.result t.2
    (fits_so t.0 d (seal_cost c.args.seal each) ((0 + times) * each) low)
    c.look_at.ensures.taken)))
    s.2

pub returns-in_err-look_at-clause-cause : goal.returns-in_err-look_at-clause-cause
returns-in_err-look_at-clause-cause g c =
    let p = err_from_is_err_and c.from_residual-in_err-look_at.result c.from_residual-in_err-look_at.ensures.1 in
    later_stop _ _ _ c.look_at.result c.in_err-look_at.field-0.0 c.from_residual-in_err-look_at.result c.in_err-look_at.was (p.1 ∙ ap Err p.2) c.offsets.invariant.only.later c.look_at.ensures.cause
