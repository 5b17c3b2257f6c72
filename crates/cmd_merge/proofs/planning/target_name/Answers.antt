use Rattle.std.proofs.Common.{drop, length, nat_eq, refl}
use Rattle.std.specs.List.{starts_with}
use Rattle.std.proofs.lemmas.Bool.Decides.{Decides-eqb}
use Rattle.std.proofs.lemmas.Slice.Eq.{starts_is}
use Rattle.rip_outside.specs.Listing.{is_own_name}
use Rattle.cmd_merge.proofs.NameLaws.{first_true}
use Rattle.cmd_merge.proofs.planning.target_name.Goals as goal

pub unreachable-requires : goal.unreachable-requires
unreachable-requires c =
    let name = c.args.name.now in
    let from = c.args.from.now in
    let begins = first_true (starts_with nat_eq name from) (is_own_name (drop (length from) name)) c.requires in
    c.in_default.ensures.cases (drop (length from) name) ((starts_is Decides-eqb name from (starts_with nat_eq name from) refl).0 begins)
