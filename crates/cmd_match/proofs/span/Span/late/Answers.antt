use Rattle.std.proofs.Common.{◌≡◌, ◌∙◌, ◌+◌, ◌-◌, ◌++◌, ℕ, length, replicate, ap, ap₂, sym, arith}
use Rattle.std.specs.Prelude.{min, slice_range}
use Rattle.cmd_match.proofs.SpanLaws.{late_words}
use Rattle.cmd_match.proofs.span.Span.late.Goals as goal

pub returns-clause-words : goal.returns-clause-words
returns-clause-words c = λ rip d long is.
    let size : ℕ = c.args.end - c.args.begin in
    let from : min (c.args.begin + c.args.words) (length rip) ≡ c.min-from.result = ap (λ n. min (c.args.begin + c.args.words) n) long ∙ sym c.min-from.ensures in
    let to : min (c.args.end + c.args.words) (length rip) ≡ c.min-to.result = ap (λ n. min (c.args.end + c.args.words) n) long ∙ sym c.min-to.ensures in
    late_words rip d c.args.words c.args.begin c.args.end c.requires.rises (omega (arith, c.requires.within, long)) is
    ∙ ap₂ (λ from to. replicate 0 0 ++ slice_range rip from to ++ replicate (size - (to - from)) 0) from to
