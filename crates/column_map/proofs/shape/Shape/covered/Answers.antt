use Rattle.std.proofs.Common.{◌≡◌, ℕ, ◌-◌, ◌/◌, ◌%◌, arith, ap, ◌∙◌, w32}
use Rattle.std.proofs.lemmas.Int.{to_z-of_z}
use Rattle.column_map.specs.Columns.{stride, IsWordAt, place, per_column}
use Rattle.column_map.proofs.PlaceLaws.{place-from_first}
use Rattle.column_map.proofs.shape.Shape.covered.Goals as goal

pub returns-then-k-per_column-clause-none : goal.returns-then-k-per_column-clause-none
returns-then-k-per_column-clause-none c =
    let first : c.start_of-first.result ≡ place c.args.d 0 0 = c.start_of-first.ensures.value ∙ ap (λ d. place d 0 0) (to_z-of_z w32 c.args.d c.ranges.d) in
    let past : ℕ = c.args.at - c.start_of-first.result in
    let word : IsWordAt (per_column c.args.self.now) c.args.d c.args.at (past % stride) (past / stride) = record {
      column = omega arith;
      number = omega (arith, c.if-k-per_column.true, c.per_column.ensures.value);
      here = place-from_first c.args.d (past % stride) (past / stride) c.requires ∙ omega (arith, first, c.if-at-first.false);
    } in
    (λ some. cc, λ none. absurd (none (past % stride, past / stride, word)))
