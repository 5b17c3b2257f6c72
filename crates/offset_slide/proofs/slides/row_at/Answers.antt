use Rattle.std.proofs.Common.{◌≡◌, ℕ, ◌+◌, ◌-◌, ◌*◌, ◌≤◌, arith, subst}
use Rattle.column_map.specs.Columns.{per_column, stride}
use Rattle.syndrome_stream.specs.Parity.{parity_at}
use Rattle.offset_slide.proofs.SlideLaws.{back_word, column_row, front_word}
use Rattle.offset_slide.proofs.slides.row_at.Goals as goal

pub returns-then-a-lt-STRIDE : goal.returns-then-a-lt-STRIDE
returns-then-a-lt-STRIDE g c = λ y stand.
    c.down.ensures (per_column c.args.edges.now.sectors) y c.args.a (omega (arith, c.requires.sectors.0)) c.requires.steps stand.edges.words
    (column_row g.row.P c.args.a (c.args.a + stride) c.args.table.now c.args.edges.now y c.row.result stand (omega (arith, c.if-a-lt-STRIDE.true)) c.row.ensures.value (omega arith))
    (back_word g.row.P c.args.a c.back.result c.args.table.now c.args.edges.now y stand c.requires.sectors (omega (arith, c.if-a-lt-STRIDE.true)) c.back.ensures)
    (front_word g.row.P c.args.a c.front.result c.args.table.now c.args.edges.now y stand c.requires.sectors (omega (arith, c.if-a-lt-STRIDE.true)) c.front.ensures)

pub returns-then-a : goal.returns-then-a
returns-then-a g c = λ y stand.
    column_row g.row.P _ c.args.a c.args.table.now c.args.edges.now y c.row-then-a.result stand (omega (arith, c.if-a.true, c.if-a-lt-STRIDE.false)) c.row-then-a.ensures.value (omega (arith, c.if-a-lt-STRIDE.false))

pub returns-else-a : goal.returns-else-a
returns-else-a g c = λ y stand.
    let past : 2 * stride ≤ c.args.a = omega (arith, c.if-a.false) in
    let last : c.args.a + 3 ≤ 3 * stride = c.requires.last in
    let from : ℕ = c.args.a - stride in
    subst (λ a. c.up.result ≡ parity_at g.row.P (per_column c.args.edges.now.sectors) y a) (omega arith)
    (c.up.ensures (per_column c.args.edges.now.sectors) y from (omega (arith, c.requires.sectors.0)) c.requires.steps stand.edges.words
    (column_row g.row.P (from - stride) from c.args.table.now c.args.edges.now y c.row-else-a.result stand (omega arith) c.row-else-a.ensures.value (omega arith))
    (front_word g.row.P from c.front-else-a.result c.args.table.now c.args.edges.now y stand c.requires.sectors (omega arith) c.front-else-a.ensures)
    (back_word g.row.P from c.back-else-a.result c.args.table.now c.args.edges.now y stand c.requires.sectors (omega arith) c.back-else-a.ensures))
