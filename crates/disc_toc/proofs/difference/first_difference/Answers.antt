use Rattle.std.proofs.Common.{◌≡◌, rules}
use Rattle.disc_toc.specs.Toc.{toc_of}
use Rattle.disc_toc.specs.Difference.{difference_of}
use Rattle.disc_toc.proofs.DifferenceLaws.{IsNone-difference_of}
use Rattle.disc_toc.proofs.difference.first_difference.Goals as goal

pub returns-clause-equal : goal.returns-clause-equal
returns-clause-equal c =
    let value : c.first_start_difference.result ≡ difference_of (toc_of c.args.rip.now) (toc_of c.args.kept.now) = search rules in
    IsNone-difference_of c.args.rip.now c.args.kept.now c.first_start_difference.result value
