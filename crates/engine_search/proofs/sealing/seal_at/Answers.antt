use Rattle.std.proofs.Common.{◌≡◌, ◌∙◌, ◌+◌, ◌*◌, ◌≤◌, ◌<◌, ℕ, List, length, ap₂, arith, w32, to_z, of_z}
use Rattle.std.proofs.lemmas.Int.{to_z-of_z}
use Rattle.std.specs.Prelude.{slice_range}
use Rattle.rip_outside.proofs.FilesLaws.{if_told, when_told}
use Rattle.column_map.specs.Columns.{per_column, place, stride}
use Rattle.column_map.proofs.PlaceLaws.{place-from_first}
use Rattle.image_mender.specs.Joined.{joined_words}
use Rattle.image_mender.specs.Patched.{patched}
use Rattle.image_mender.specs.Seal.{seal_of_words}
use Rattle.image_mender.proofs.JoinLaws.{length-joined_words}
use Rattle.image_mender.proofs.MendedLaws.{patched_mended}
use Rattle.engine_search.proofs.SealingLaws.{sealed_as}
use Rattle.engine_search.proofs.sealing.seal_at.Goals as goal

pub seal_of-requires-clause-lie : goal.seal_of-requires-clause-lie
seal_of-requires-clause-lie g c = λ k e below.
    let at = c.requires.lie.covered k e below in
    let same : to_z w32 (of_z w32 c.args.d) ≡ c.args.d = to_z-of_z w32 c.args.d c.ranges.d in
    let begins : c.place.result ≡ place c.args.d 0 0 = rw same at c.place.ensures.value in
    let here = place-from_first c.args.d at.0 at.1 c.requires.lie.offset in
    let column : at.0 < stride = at.2.column in
    let number : at.1 < per_column c.args.shape = at.2.number in
    (omega (arith, begins, here, at.2.here), omega (arith, begins, here, at.2.here, column, number))

pub returns-in-Ok-clause-seal : goal.returns-in-Ok-clause-seal
returns-in-Ok-clause-seal g c =
    let h0 = g.S.Shelf.held c.args.shelf.now in
    let words : ℕ = per_column c.args.shape in
    let same : to_z w32 (of_z w32 c.args.d) ≡ c.args.d = to_z-of_z w32 c.args.d c.ranges.d in
    let begins : c.place.result ≡ place c.args.d 0 0 = rw same at c.place.ensures.value in
    let first : c.from-first.result ≡ place c.args.d 0 0 = omega (arith, begins) in
    let count : c.from-count.result ≡ words * stride = omega arith in
    if_told h0 _ (λ files told table are.
    let rip : List ℕ = joined_words c.args.image.now files in
    let sealed = when_told h0 (λ files. c.in-Ok.seal ≡ seal_of_words (slice_range (patched c.args.fixes.now (joined_words c.args.image.now files)) c.from-first.result (c.from-first.result + c.from-count.result))) c.in-Ok.ensures.seal files told in
    let long = length-joined_words c.args.image.now files (c.requires.inside files told) in
    let low : 30 ≤ c.args.shape = c.requires.range.0 in
    let room : (words + 2) * stride ≤ length rip = omega (arith, long, low, c.requires.count) in
    sealed ∙ ap₂ (λ a b. seal_of_words (slice_range (patched c.args.fixes.now rip) a (a + b))) first count
    ∙ sealed_as words c.args.d table rip (patched c.args.fixes.now rip) c.requires.lie.offset room (patched_mended words rip c.args.d table c.args.fixes.now c.requires.lie.offset room are))
