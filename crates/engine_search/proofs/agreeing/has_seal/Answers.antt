use Rattle.std.proofs.Common.{◌≡◌, ℕ, List, Some, refl, rules, subst, sym, w32, to_z, of_z}
use Rattle.std.specs.Prelude.{◌↔◌, IsTrue}
use Rattle.std.proofs.lemmas.Int.{to_z-of_z}
use Rattle.rip_outside.proofs.FilesLaws.{if_told, when_told}
use Rattle.column_map.specs.Columns.{IsOffset, WordTable, per_column}
use Rattle.column_map.specs.Mending.{AreFixes}
use Rattle.image_mender.specs.Joined.{joined_words}
use Rattle.image_mender.specs.Seal.{seal_of_table}
use Rattle.offset_search.specs.Near.{Fits}
use Rattle.offset_search.proofs.Counting.{unfit_far}
use Rattle.engine_steps.specs.Steps.{known_from}
use Rattle.engine_steps.proofs.ComparedLaws.{few_words}
use Rattle.engine_search.proofs.PickLaws.{fixes_covered}
use Rattle.engine_search.proofs.SealingLaws.{agrees_by_seal}
use Rattle.engine_search.proofs.agreeing.has_seal.Goals as goal

pub unreachable-requires : goal.unreachable-requires
unreachable-requires g c =
    let same : to_z w32 (of_z w32 c.args.d) ≡ c.args.d = to_z-of_z w32 c.args.d c.ranges.d in
    let s = c.requires.stands in
    unfit_far (rw (same, c.requires.sectors) at (c.in_default.ensures.not_near s.0 s.1)) (c.requires.near s.0 s.1)

pub seal_at-requires-clause-lie : goal.seal_at-requires-clause-lie
seal_at-requires-clause-lie g c =
    let same : to_z w32 (of_z w32 c.args.d) ≡ c.args.d = to_z-of_z w32 c.args.d c.ranges.d in
    let s = c.requires.stands in
    let found = c.in-Ok.ensures.fixes s.0 s.1 in
    rw (← c.requires.sectors) (fixes_covered _ s.0 (to_z w32 (of_z w32 c.args.d)) found.0 c.in-Ok.fixes.now (subst IsOffset (sym same) c.requires.offset) found.2)

pub returns-clause-has : goal.returns-clause-has
returns-clause-has g c = λ y stands.
    let h0 = g.S.Shelf.held c.args.shelf.now in
    let words : ℕ = per_column c.args.shape in
    let wanted = c.args.search.now.wanted in
    let seal = c.args.seal.now in
    let same : to_z w32 (of_z w32 c.args.d) ≡ c.args.d = to_z-of_z w32 c.args.d c.ranges.d in
    let found : (table : WordTable) × Fits g.row.P words y c.args.d wanted table × AreFixes words y c.args.d table c.in-Ok.fixes.now = rw (same, c.requires.sectors) at (c.in-Ok.ensures.fixes y stands) in
    if_told h0 _ (λ files told is.
    let sealed = when_told h0 (λ files. (table : WordTable) → AreFixes words (joined_words c.args.image.now files) c.args.d table c.in-Ok.fixes.now → c.in_ok-found.found ≡ seal_of_table words table) (rw same at c.in_ok-found.ensures.seal) files told in
    let has = agrees_by_seal (known_from c.args.shape y g.row.P wanted (Some seal)) c.args.d found.0 seal c.in_ok-found.found (few_words (known_from c.args.shape y g.row.P wanted (Some seal)) c.requires.range) refl found.1
    (sealed found.0 (subst (λ (w : List ℕ). AreFixes words w c.args.d found.0 c.in-Ok.fixes.now) is found.2)) in
    let eq : IsTrue c.eq.result ↔ (c.in_ok-found.found ≡ seal) = search rules in
    (λ true. has.0 (eq.0 true), λ agrees. eq.1 (has.1 agrees)))
