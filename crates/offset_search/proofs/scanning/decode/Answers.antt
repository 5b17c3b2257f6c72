use Rattle.std.proofs.Common.{ℕ, refl, replicate, ◌≡◌, ◌<◌, get_or, arith, ap, ◌∙◌, w32}
use Rattle.std.proofs.lemmas.Int.{to_z-of_z}
use Rattle.std.proofs.lemmas.Bool.Decides.{Decides-eqb}
use Rattle.std.proofs.lemmas.Slice.Eq.{slice_eq-Decides}
use Rattle.std.proofs.lemmas.Option.{IfSome_then}
use Rattle.error_locator.proofs.Update.{zeros_at}
use Rattle.column_map.specs.Columns.{per_column}
use Rattle.offset_search.proofs.Decoding.{decoded_none, decoded_some, zeros_list}
use Rattle.offset_search.proofs.scanning.decode.Goals as goal

pub returns-then-eq-clause-some : goal.returns-then-eq-clause-some
returns-then-eq-clause-some g c y stand =
    decoded_some g.row.P (per_column (g.S.Starts.sectors c.args.starts.now)) y c.args.d c.args.wanted.now c.args.j stand.image.words c.requires.offset c.requires.column
    (λ i. get_or c.difference-sum.result i 0) _ (c.difference-sum.ensures.sums y stand) (to_z-of_z w32 c.args.d c.ranges.d) (per_column (g.S.Starts.sectors c.args.starts.now)) refl c.difference-sum.ensures.stored.many
    0 (λ i. get_or {A = ℕ} (replicate {A = ℕ} g.row.P 0) i 0) (λ i. get_or {A = ℕ} (replicate {A = ℕ} g.row.P 0) i 0)
    (zeros_list g.row.P (per_column (g.S.Starts.sectors c.args.starts.now)) (λ i. get_or c.difference-sum.result i 0)
    (λ m l.
    ap (λ row. get_or {A = ℕ} row m 0) ((slice_eq-Decides Decides-eqb c.difference-sum.result (replicate {A = ℕ} g.row.P 0) c.eq.result c.eq.ensures).0 c.if-eq.true) ∙ zeros_at g.row.P m)
    0 (λ i. get_or {A = ℕ} (replicate {A = ℕ} g.row.P 0) i 0) (λ i. get_or {A = ℕ} (replicate {A = ℕ} g.row.P 0) i 0) refl (zeros_at g.row.P))

pub returns-clause-some : goal.returns-clause-some
returns-clause-some g c y stand =
    IfSome_then c.decode.result c.decode.ensures.found
    (λ errors list.
    decoded_some g.row.P (per_column (g.S.Starts.sectors c.args.starts.now)) y c.args.d c.args.wanted.now c.args.j stand.image.words c.requires.offset c.requires.column
    (λ i. get_or c.difference-sum.result i 0) _ (c.difference-sum.ensures.sums y stand) (to_z-of_z w32 c.args.d c.ranges.d) c.per_column.result (c.per_column.ensures.value ∙ ap per_column c.shape-shape.ensures) c.difference-sum.ensures.stored.many
    errors.count (λ i. get_or errors.k i 0) (λ i. get_or errors.flip i 0) list)

pub returns-clause-none : goal.returns-clause-none
returns-clause-none g c y stand none =
    decoded_none g.row.P (per_column (g.S.Starts.sectors c.args.starts.now)) y c.args.d c.args.wanted.now c.args.j stand.image.words c.requires.offset c.requires.column
    (λ i. get_or c.difference-sum.result i 0) _ (c.difference-sum.ensures.sums y stand) (to_z-of_z w32 c.args.d c.ranges.d) c.per_column.result (c.per_column.ensures.value ∙ ap per_column c.shape-shape.ensures) (c.decode.ensures.none none)

pub returns-clause-few : goal.returns-clause-few
returns-clause-few g c = IfSome_then c.decode.result c.decode.ensures.found (λ errors list. omega (arith, list.few))

pub returns-clause-below : goal.returns-clause-below
returns-clause-below g c =
    IfSome_then c.decode.result c.decode.ensures.found
    (λ errors list i l.
    let same : c.per_column.result ≡ per_column (g.S.Starts.sectors c.args.starts.now) = c.per_column.ensures.value ∙ ap per_column c.shape-shape.ensures in
    let low : get_or errors.k i 0 < c.per_column.result = list.below i l in omega arith)
