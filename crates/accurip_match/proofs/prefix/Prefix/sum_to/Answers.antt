use Rattle.accurip_match.proofs.PrefixLaws.{difference}
use Rattle.accurip_match.proofs.prefix.Prefix.sum_to.Goals as goal

pub returns : goal.returns
returns c = λ sum v w v' w' values products values' products' total. rw (values, products, values', products') (difference sum c.args.shift v w v' w' total)
