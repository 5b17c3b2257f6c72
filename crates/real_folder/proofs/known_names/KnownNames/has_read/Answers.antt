use Rattle.std.proofs.Common.{rules, tests, ◌≡◌, true, false}
use Rattle.std.specs.BTreeMap.{values}
use Rattle.std.proofs.lemmas.Iterator.Consumers.{YieldsList-from_rest}
use Rattle.std.proofs.lemmas.Iterator.{cases_from_any}
use Rattle.std.proofs.lemmas.Iterator.Search.{true_from_Any}
use Rattle.std.proofs.lemmas.Bool.{MatchBool-at_true}
use Rattle.real_folder.specs.declared.known_names.Known.{Known}
use Rattle.real_folder.specs.KnownNames.{is_read_as}
use Rattle.real_folder.proofs.KnownLaws.{IsReadAs, read_from_place, any_from_read}
use Rattle.real_folder.proofs.known_names.KnownNames.has_read.Goals as goal

pub returns : goal.returns
returns c =
    let names = c.args.self.now in
    let file = c.args.file.now in
    let vs = values names.names in
    let no = λ (known : Known). is_read_as file known ≡ false in
    let r = cases_from_any _ _ _ (IsReadAs file) no c.any.ensures.ran (YieldsList-from_rest vs c.values.ensures.rest) (λ y b k. search (rules, tests)) (λ y b k. search (rules, tests)) in (
      λ t. let w = MatchBool-at_true _ _ t r in read_from_place names file c.values.ensures.ordered w.0 w.1 w.2,
      λ was. let any = any_from_read names file was in
          true_from_Any (IsReadAs file) no _ vs (λ y p q. let clash : true ≡ false = rw p at q in cc) r any.1 (any.0, any.2, any.3) any.4,
    )
