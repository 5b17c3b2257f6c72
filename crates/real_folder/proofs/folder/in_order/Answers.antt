use Rattle.std.proofs.Common.{◌≡◌, ◌∙◌, sym, ap, map, subst}
use Rattle.std.specs.String.{string_bytes}
use Rattle.std.specs.Ordering.{nat_cmp}
use Rattle.std.specs.Cmp.Lexicographic.{slice_cmp}
use Rattle.std.specs.List.Sorted.{IsStrictlySortedBy}
use Rattle.std.proofs.lemmas.Map.Iter.{iter_end}
use Rattle.std.proofs.lemmas.List.{map-id}
use Rattle.real_folder.proofs.ListingLaws.{sorted_texts}
use Rattle.real_folder.proofs.folder.in_order.Goals as goal

pub returns-clause-ordered : goal.returns-clause-ordered
returns-clause-ordered c =
    let gives = c.into_iter-name-iterator.ensures.into_iter_gives in
    let all = iter_end (λ x. x) c.args.set.keys c.loop-name.yielded c.into_iter-name-iterator.result c.loop-name.name-iterator c.next.new.self c.next.result gives.0 c.loop-name.yielded_by c.in-None.is c.next.ensures.steps in
    let names : c.of-2.result ≡ map string_bytes c.args.set.keys = c.of-2.ensures ∙ c.loop-name.invariant ∙ ap (map string_bytes) (sym (map-id c.loop-name.yielded) ∙ all.0) in
    subst (IsStrictlySortedBy (slice_cmp nat_cmp)) (sym names) (sorted_texts c.args.set.keys gives.4)
