use Rattle.std.proofs.Common.{◌≡◌, ◌∙◌, ◌-◌, ◌++◌, ℕ, List, replicate, ap, ap₂, sym}
use Rattle.std.specs.Prelude.{min, slice_range}
use Rattle.cmd_match.proofs.SpanLaws.{early_words}
use Rattle.cmd_match.proofs.span.Span.early.Goals as goal

pub returns-clause-words : goal.returns-clause-words
returns-clause-words c = λ rip d inside is.
    let before : min (c.args.words - c.args.begin) (c.args.end - c.args.begin) ≡ c.min.result = ap (λ n. min n (c.args.end - c.args.begin)) (sym c.saturating_sub.ensures) ∙ sym c.min.ensures in
    early_words rip d c.args.words c.args.begin c.args.end c.requires.rises inside is
    ∙ ap₂ (λ (n : ℕ) (run : List ℕ). replicate n 0 ++ run ++ replicate 0 0) before (ap₂ (slice_range rip) (sym c.saturating_sub-2.ensures) (sym c.saturating_sub-3.ensures))
