use Rattle.std.proofs.Common.{◌≡◌, ◌∙◌, ◌+◌, suc, ap, sym, arith, drop, None, Some, lit<}
use Rattle.std.proofs.lemmas.Str.Pattern.{rfind_char}
use Rattle.rip_words.proofs.NameLaws.{after_slash, no_slash}
use Rattle.rip_words.proofs.naming.name_in_folder.Goals as goal

pub returns-in-Some : goal.returns-in-Some
returns-in-Some c =
    let name = c.args.name.now in
    let at = c.in-Some.at in
    let found = rfind_char 47 name (Some at) c.in-Some.ensures.cases (lit< tt) in
    let size : at + 1 ≡ suc at = omega arith in
    c.range_from.ensures.value ∙ ap (λ n. drop n name) size ∙ sym (after_slash name at found.0 found.1 found.2)

pub returns-in-None : goal.returns-in-None
returns-in-None c = sym (no_slash c.args.name.now (rfind_char 47 c.args.name.now None c.in-None.ensures.cases (lit< tt)))
