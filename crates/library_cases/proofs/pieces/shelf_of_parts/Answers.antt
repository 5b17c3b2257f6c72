use Rattle.std.proofs.Common.{◌≡◌, ◌≢◌, ◌∙◌, ℕ, zero, suc, ◌≤◌, ◌<◌, List, length, get_or, Some, None, [], refl, ap, arith}
use Rattle.std.specs.Prelude.{codes, unwrap_or}
use Rattle.std.specs.FinMap.{empty, get, get-empty}
use Rattle.rip_outside.specs.Files.{Files, bytes_at}
use Rattle.rip_outside.proofs.FilesLaws.{get-insert_same, get-insert_other}
use Rattle.rip_memory.specs.Filling.{after_fill}
use Rattle.image_mender.specs.Joined.{AreInFiles, IsInFile}
use Rattle.library_cases.specs.Parts.{two_parts}
use Rattle.library_cases.proofs.pieces.shelf_of_parts.Goals as goal

-- what is held once both files are filled
abbrev filled : List ℕ → List ℕ → Files → Files
filled a b before = after_fill (codes "b") b (after_fill (codes "a") a before)

-- names that differ in their first byte
differ : (name other : List ℕ) → get_or name 0 0 ≢ get_or other 0 0 → name ≢ other
differ name other firsts is = firsts (ap (λ n. get_or n 0 0) is)

-- both parts lie in files with enough bytes
in_files : (before : Files) (a b : List ℕ) → 9 ≤ length a → 4 ≤ length b → AreInFiles two_parts (filled a b before)
in_files before a b long_a long_b k d below = by k below
  where
    held_a : bytes_at (codes "a") (filled a b before) ≡ a
    held_a = ap (λ o. unwrap_or o []) (get-insert_other (after_fill (codes "a") a before) (codes "b") b (codes "a") (differ _ _ (λ is. omega (arith, is))) ∙ get-insert_same before (codes "a") a)

    held_b : bytes_at (codes "b") (filled a b before) ≡ b
    held_b = ap (λ o. unwrap_or o []) (get-insert_same (after_fill (codes "a") a before) (codes "b") b)

    by : (k : ℕ) → k < 2 → IsInFile (get_or two_parts k d) (filled a b before)
    by zero below = omega (arith, ap length held_a)
    by (suc zero) below = omega (arith, ap length held_b)
    by (suc (suc k)) below = absurd (omega arith)

-- what is held in the end
both_filled : (f0 f1 f2 : Files) (a b : List ℕ) → Some f1 ≡ Some (after_fill (codes "a") a f0) → Some f2 ≡ Some (after_fill (codes "b") b f1) → f2 ≡ filled a b f0
both_filled f0 f1 f2 a b filled_a filled_b =
    let is_a : f1 ≡ after_fill (codes "a") a f0 = cc in
    let is_b : f2 ≡ after_fill (codes "b") b f1 = cc in
    is_b ∙ ap (after_fill (codes "b") b) is_a

pub returns-clause-inside : goal.returns-clause-inside
returns-clause-inside c =
    let is = both_filled c.new-shelf.result.files c.fill.new.shelf.files c.fill-2.new.shelf.files _ _ c.in_ok-fill.ensures.ok c.in_ok-fill-2.ensures.ok in
    rw is (in_files c.new-shelf.result.files _ _ (search arith) (search arith))

-- nothing else is held, where nothing was held before
not_held : (before : Files) (a b name : List ℕ) → before ≡ empty → get_or name 0 0 ≡ 111 → get (filled a b before) name ≡ None
not_held before a b name nothing first =
    get-insert_other (after_fill (codes "a") a before) (codes "b") b name (differ _ _ (λ is. omega (arith, is)))
    ∙ get-insert_other before (codes "a") a name (differ _ _ (λ is. omega (arith, is)))
    ∙ ap (λ files. get files name) nothing
    ∙ get-empty _ name

pub returns-clause-free : goal.returns-clause-free
returns-clause-free c =
    let is = both_filled c.new-shelf.result.files c.fill.new.shelf.files c.fill-2.new.shelf.files _ _ c.in_ok-fill.ensures.ok c.in_ok-fill-2.ensures.ok in
    rw is (not_held c.new-shelf.result.files _ _ (codes "out.wav") c.new-shelf.ensures.files (refl))
