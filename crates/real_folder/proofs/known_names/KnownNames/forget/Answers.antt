use Rattle.real_folder.proofs.KnownLaws.{learns_nothing}
use Rattle.real_folder.proofs.known_names.KnownNames.forget.Goals as goal

pub returns : goal.returns
returns c = learns_nothing c.args.name.now c.args.self.now _ c.remove.ensures.updates
