use Rattle.std.proofs.Common.{◌≡◌, string_bytes}
use Rattle.std.proofs.lemmas.Result.{IfOk-at_ok}
use Rattle.real_folder.proofs.KnownLaws.{learns}
use Rattle.real_folder.proofs.known_names.KnownNames.learn.Goals as goal

pub returns-clause-ok : goal.returns-clause-ok
returns-clause-ok c =
    let key_is_name = IfOk-at_ok (λ s. string_bytes s ≡ c.args.name.now) c.in_ok-key.was c.from_str.ensures.ok in
    let learnt = learns (string_bytes c.in_ok-key.key) c.args.known c.args.self.now (record c.args.self.now { names = c.insert.new.self }) c.in_ok-insert.ensures.updates in
    rw key_is_name at learnt
