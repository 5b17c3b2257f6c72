use Rattle.std.proofs.Common.{◌+◌, ◌*◌, [], ◌∷◌, ◌++◌, ap₂, sym, ◌∙◌, arith}
use Rattle.std.proofs.lemmas.List.FromFn.{map-range_with_len_more}
use Rattle.accurip_match.specs.Response.{entry_at}
use Rattle.accurip_match.proofs.reading.block_at.Goals as goal

pub loop-t-preserved : goal.loop-t-preserved
loop-t-preserved c =
    c.in_ok-push.ensures.items ∙ ap₂ (λ xs x. xs ++ x ∷ []) c.loop-t.invariant c.entry_at.ensures
    ∙ sym (map-range_with_len_more (λ t. entry_at c.args.bytes.now (c.args.at + 13 + 9 * t)) 0 c.loop-t.t c.loop-t.t (omega arith))
