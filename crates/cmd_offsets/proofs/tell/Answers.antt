use Rattle.std.proofs.Common.{◌≡◌, sym, refl, rules}
use Rattle.rip_report.specs.Texts.{offsets_text}
use Rattle.rip_report.specs.declared.status.Status.TheVariants.{Done}
use Rattle.engine_steps.specs.Outcome.{answered}
use Rattle.cmd_offsets.proofs.OffsetsLaws.{listed_some}
use Rattle.cmd_offsets.proofs.tell.Goals as goal

pub returns-clause-tells : goal.returns-clause-tells
returns-clause-tells c =
    let text : c.in_ok-text.text ≡ offsets_text c.args.found.items = search rules in
    λ files. (answered Done (offsets_text c.args.found.items), sym (listed_some c.args.found.items (search rules)), refl, sym text, refl)
