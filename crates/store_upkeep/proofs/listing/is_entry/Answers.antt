use Rattle.std.specs.Prelude.{codes}
use Rattle.std.proofs.lemmas.Str.Pattern.{ends_text}
use Rattle.store_upkeep.proofs.listing.is_entry.Goals as goal

pub returns : goal.returns
returns c = ends_text c.ends_with.result (codes ".rpar") c.args.name.now c.ends_with.ensures.cases
