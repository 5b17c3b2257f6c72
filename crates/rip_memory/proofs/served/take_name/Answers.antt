use Rattle.std.proofs.Common.{◌≡◌, ◌∙◌, ap, sym, not, Some, None, arith, rules}
use Rattle.std.specs.Str.{bytes_eq}
use Rattle.std.specs.List.{position}
use Rattle.std.specs.Cmp.Lexicographic.{bytes_decides}
use Rattle.std.proofs.lemmas.List.Quantifiers.{position-Some}
use Rattle.rip_outside.specs.Crashes.{without}
use Rattle.rip_memory.proofs.NameLaws.{filter-remove, filter-none, no_position, some_position}
use Rattle.rip_memory.proofs.served.take_name.Goals as goal
use Rattle.rip_memory.proofs.served.take_name.Goals.{In_default, In-Some}

pub returns-in_default-clause-names : goal.returns-in_default-clause-names
returns-in_default-clause-names c =
    let none : position (λ one. bytes_eq one c.args.name.now) c.args.names.now.items ≡ None = search rules in
    sym (filter-none (λ one. bytes_eq one c.args.name.now) _ (no_position (λ one. bytes_eq one c.args.name.now) _ none))

pub returns-in_default-clause-some : goal.returns-in_default-clause-some
returns-in_default-clause-some c =
    let none : position (λ one. bytes_eq one c.args.name.now) c.args.names.now.items ≡ None = search rules in
    sym (no_position (λ one. bytes_eq one c.args.name.now) _ none)

pub returns-clause-names : goal.returns-clause-names
returns-clause-names c =
    let some : position (λ one. bytes_eq one c.args.name.now) c.args.names.now.items ≡ Some c.in-Some.i = search rules in
    let at = position-Some (λ one. bytes_eq one c.args.name.now) c.args.names.now.items c.in-Some.i c.args.name.now some in
    c.drop_name.ensures.names ∙ ap (without c.args.name.now) c.remove-found.ensures.items
    ∙ filter-remove (λ one. not (bytes_eq one c.args.name.now)) c.args.names.now.items c.in-Some.i c.args.name.now at.0 (ap not at.1)

pub returns-clause-found : goal.returns-clause-found
returns-clause-found c =
    let some : position (λ one. bytes_eq one c.args.name.now) c.args.names.now.items ≡ Some c.in-Some.i = search rules in
    let at = position-Some (λ one. bytes_eq one c.args.name.now) c.args.names.now.items c.in-Some.i c.remove-found.result some in
    c.remove-found.ensures.value ∙ (bytes_decides _ _).0 at.1

pub returns-clause-some : goal.returns-clause-some
returns-clause-some c =
    let some : position (λ one. bytes_eq one c.args.name.now) c.args.names.now.items ≡ Some c.in-Some.i = search rules in
    sym (some_position (λ one. bytes_eq one c.args.name.now) _ c.in-Some.i some)

pub returns-clause-fewer : goal.returns-clause-fewer
returns-clause-fewer c = omega (arith, c.remove-found.ensures.len, c.drop_name.ensures.fewer)
