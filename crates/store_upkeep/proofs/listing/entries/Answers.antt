use Rattle.std.proofs.Common.{◌≡◌, ◌∙◌, List, ℕ, All, true, ap, subst, sym, filter}
use Rattle.std.proofs.lemmas.List.Elements.{All-filter}
use Rattle.rip_outside.specs.Listing.{stands_in}
use Rattle.store_upkeep.specs.Entries.{is_entry}
use Rattle.store_upkeep.proofs.listing.entries.Goals as goal

pub returns-in-Ok-clause-inside : goal.returns-in-Ok-clause-inside
returns-in-Ok-clause-inside g c =
    let inside : List ℕ → Type 0 = λ name. stands_in c.args.store.now name ≡ true in
    let kept : c.of.result ≡ filter is_entry c.in-Ok.names = c.of.ensures ∙ c.keep_entries.ensures ∙ ap (filter is_entry) c.into_vec-list.ensures in
    subst (All inside) (sym kept) (All-filter is_entry inside c.in-Ok.names c.in-Ok.ensures.inside)
