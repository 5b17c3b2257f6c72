use Rattle.std.proofs.Common.{◌+◌, ◌*◌, ◌%◌, ◌^◌, ap₂}
use Rattle.accurip_match.proofs.PrefixLaws.{prefix_next}
use Rattle.accurip_match.proofs.prefix.Prefix.plus.Goals as goal

pub returns : goal.returns
returns c = λ y now.
    prefix_next c.args.self y c.args.left c.args.right c.args.before _ _ now
    (ap₂ (λ left right. (c.args.self.values + (left + 65536 * right)) % 2 ^ 32) c.from.ensures c.from-2.ensures)
    (ap₂ (λ left right. (c.args.self.products + (c.args.before + 1) * (left + 65536 * right) % 2 ^ 32) % 2 ^ 32) c.from.ensures c.from-2.ensures)
