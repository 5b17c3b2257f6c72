use Rattle.std.proofs.Common.{◌≡◌, ◌≤◌, Bool, true, false, refl, cond, ◌∙◌, ◌*◌, ◌+◌, ◌++◌, List, ℕ, ap, arith, Some, get_or, length, rules, sym, take}
use Rattle.std.specs.Int.{from_bool as bool_byte}
use Rattle.std.proofs.lemmas.List.{get_or_read}
use Rattle.std.proofs.lemmas.Result.{err_from_is_err_and}
use Rattle.rip_outside.specs.Files.{bytes_at}
use Rattle.rip_outside.proofs.FilesLaws.{if_told_both, when_told}
use Rattle.rip_outside.proofs.ReadingLaws.{reads_twice}
use Rattle.rip_inputs.specs.Opening.{lengths_of}
use Rattle.store_upkeep.specs.Entries.{entries_in, entry_state}
use Rattle.engine_steps.proofs.TakingLaws.{more_so_far, takes_so_far, takes_stopped}
use Rattle.cmd_store.specs.StoreOutcome.{bad_among, faulty_line, is_bad, lines_among}
use Rattle.cmd_store.proofs.LineLaws.{bad_more, lengths_next, lengths_so_far, lengths_within, lines_more, one_held}
use Rattle.cmd_store.proofs.checking.check.Goals as goal

pub check_entry-requires : goal.check_entry-requires
check_entry-requires g c = record {
  held = λ files told.
      let h0 = g.F.Shelf.held c.args.shelf.now in
      let names = c.as_slice-name-items.result.now in
      let same : h0 ≡ Some files = sym c.loop-name.invariant.only.same ∙ told in
      let are : names ≡ entries_in c.args.store.now files = c.as_slice-name-items.ensures ∙ when_told h0 _ c.in_ok-names.ensures.answer files same in
      let here : c.as_str.result.now ≡ get_or names c.loop-name.name-index c.as_str.result.now = c.as_str.ensures ∙ get_or_read names c.loop-name.name-index c.name-item.result c.loop-name-test.true c.name-item.is c.as_str.result.now in
      one_held names c.loop-name.name-index c.as_str.result.now c.loop-name-test.true here c.args.store.now files are;
}

pub returns-in_err-is_bad-clause-only : goal.returns-in_err-is_bad-clause-only
returns-in_err-is_bad-clause-only g c = reads_twice _ _ _ _ c.loop-name.invariant.only c.check_entry.ensures.only

pub returns-in_err-is_bad-clause-taken : goal.returns-in_err-is_bad-clause-taken
returns-in_err-is_bad-clause-taken g c =
    let h0 = g.F.Shelf.held c.args.shelf.now in
    let names = c.as_slice-name-items.result.now in
    let i = c.loop-name.name-index in
    let name = c.as_str.result.now in
    let here : name ≡ get_or names i name = c.as_str.ensures ∙ get_or_read names i c.name-item.result c.loop-name-test.true c.name-item.is name in
    let p = err_from_is_err_and c.from_residual-in_err-is_bad.result c.from_residual-in_err-is_bad.ensures.1 in
    takes_stopped h0 (g.F.Shelf.held c.loop-name.shelf) (λ files. lengths_of (take i names) files) (λ files. length (bytes_at name files)) (λ files. 3 * lengths_of (entries_in c.args.store.now files) files) _ _ _
    c.check_entry.result p.0 c.from_residual-in_err-is_bad.result (search rules) p.1 c.loop-name.invariant.only.same c.loop-name.invariant.taken c.check_entry.ensures.taken
    (λ files told.
    let are : names ≡ entries_in c.args.store.now files = c.as_slice-name-items.ensures ∙ when_told h0 _ c.in_ok-names.ensures.answer files told in
    let within = lengths_within names i name c.loop-name-test.true here files in
    let all : lengths_of names files ≡ lengths_of (entries_in c.args.store.now files) files = ap (λ n. lengths_of n files) are in
    omega arith)

one_or_none : (b : Bool) → bool_byte b ≡ cond b 1 0
one_or_none true = refl
one_or_none false = refl

at_most_one : (b : Bool) → bool_byte b ≤ 1
at_most_one true = omega arith
at_most_one false = omega arith

pub loop-name-preserved : goal.loop-name-preserved
loop-name-preserved g c =
    let h0 = g.F.Shelf.held c.args.shelf.now in
    let names = c.as_slice-name-items.result.now in
    let i = c.loop-name.name-index in
    let name = c.as_str.result.now in
    let store = c.args.store.now in
    let here : name ≡ get_or names i name = c.as_str.ensures ∙ get_or_read names i c.name-item.result c.loop-name-test.true c.name-item.is name in
    record {
      lines = if_told_both h0 (λ files. c.loop-name.lines ≡ lines_among faulty_line store files (take i names)) (λ files. c.check_entry.new.lines ≡ c.loop-name.lines ++ faulty_line name (entry_state store files name)) _
          (λ files so_far one. one ∙ ap (λ (l : List ℕ). l ++ faulty_line name (entry_state store files name)) so_far ∙ sym (lines_more names i name c.loop-name-test.true here faulty_line store files))
          c.loop-name.invariant.lines (rw c.loop-name.invariant.only.same at c.in_ok-is_bad.ensures.lines);
      bad = if_told_both h0 (λ files. c.loop-name.bad ≡ bad_among store files (take i names)) (λ files. c.in_ok-is_bad.is_bad ≡ is_bad store files name) _
          (λ files so_far one. ap (λ (n : ℕ). c.loop-name.bad + n) (c.from-bad.ensures ∙ one_or_none c.in_ok-is_bad.is_bad) ∙ ap (λ (n : ℕ). n + cond c.in_ok-is_bad.is_bad 1 0) so_far ∙ ap (λ (b : Bool). bad_among store files (take i names) + cond b 1 0) one
          ∙ sym (bad_more names i name c.loop-name-test.true here store files))
          c.loop-name.invariant.bad (rw c.loop-name.invariant.only.same at c.in_ok-is_bad.ensures.bad);
      few = omega (arith, c.loop-name.invariant.few, at_most_one c.in_ok-is_bad.is_bad, c.from-bad.ensures);
      only = reads_twice _ _ _ _ c.loop-name.invariant.only c.check_entry.ensures.only;
      taken = more_so_far h0 (g.F.Shelf.held c.loop-name.shelf) (λ files. lengths_of (take i names) files) (λ files. length (bytes_at name files)) (λ files. lengths_of (take (i + 1) names) files) _ _ _
          c.check_entry.result c.in_ok-is_bad.is_bad c.in_ok-is_bad.was c.loop-name.invariant.only.same c.loop-name.invariant.taken c.check_entry.ensures.taken
          (λ files told. lengths_next names i name c.loop-name-test.true here files);
    }

pub returns-in_err-add_checked-clause-taken : goal.returns-in_err-add_checked-clause-taken
returns-in_err-add_checked-clause-taken g c =
    let h0 = g.F.Shelf.held c.args.shelf.now in
    takes_so_far h0 (λ files. 3 * lengths_of (entries_in c.args.store.now files) files) _ _ c.from_residual-in_err-add_checked.result
    (λ files told.
    let names = c.as_slice-name-items.result.now in
    let are : names ≡ entries_in c.args.store.now files = c.as_slice-name-items.ensures ∙ when_told h0 _ c.in_ok-names.ensures.answer files told in
    let within = lengths_so_far names c.loop-name.name-index files in
    let took = c.loop-name.invariant.taken files told in
    let all : lengths_of names files ≡ lengths_of (entries_in c.args.store.now files) files = ap (λ n. lengths_of n files) are in
    omega arith)
