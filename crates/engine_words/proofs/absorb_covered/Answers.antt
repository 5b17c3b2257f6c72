use Rattle.std.proofs.Common.{◌≡◌, ◌+◌, ◌-◌, ◌*◌, ℕ, List, subst, sym, arith}
use Rattle.column_map.specs.Columns.{per_column, stride}
use Rattle.image_mender.specs.Seal.{Seals}
use Rattle.engine_words.proofs.CoveredLaws.{covered_more, lower_is}
use Rattle.engine_words.proofs.absorb_covered.Goals as goal

pub returns-clause-stands : goal.returns-clause-stands
returns-clause-stands c = λ y size seals.
    let words : ℕ = per_column c.args.shape in
    let piece : List ℕ = c.args.piece.now in
    let from : ℕ = c.min-from.result in
    let to : ℕ = c.min-to.result in
    let first = lower_is _ _ _ c.min-from.ensures in
    let last = lower_is _ _ _ c.min-to.ensures in
    let begins : c.saturating_sub.result ≡ stride - c.args.at = omega arith in
    let ends : c.saturating_sub-2.result ≡ stride + words * stride - c.args.at = omega arith in
    subst (Seals c.absorb.new.self)
    (sym (covered_more words c.args.at from to y piece size first.1 (rw begins at first.0) (rw begins at first.2) last.1 (rw ends at last.0) (rw ends at last.2))) (c.absorb.ensures _ seals)
