use Rattle.std.proofs.Common.{◌≡◌, ◌∙◌, ◌-◌, List, ℕ, length, take, drop, ap, subst, sym}
use Rattle.std.specs.Prelude.{Result}
use Rattle.std.specs.String.{string_bytes}
use Rattle.rip_words.specs.Command.{ReadsWords, command_reading, texts, verb_of, verb_words}
use Rattle.rip_words.specs.declared.Command.{Command}
use Rattle.rip_words.proofs.FirstWord.{two_names, words_split}
use Rattle.rip_words.proofs.read_command.Goals as goal

pub returns-in_default-clause-value : goal.returns-in_default-clause-value
returns-in_default-clause-value c =
    let words = c.args.words.now in
    let first : List ℕ = string_bytes c.first-item.result in
    let rest : List (List ℕ) = texts (take (length words - 1) (drop 1 words)) in
    let own : c.as_str.result.now ≡ first = c.as_str.ensures.value in
    let reading : verb_words c.verb_of.result rest ≡ command_reading (texts words) =
    ap (λ v. verb_words v rest) (c.verb_of.ensures ∙ ap verb_of own)
    ∙ sym (two_names first rest (λ is. c.in_default.not-sums (own ∙ is)) (λ is. c.in_default.not-split (own ∙ is)) (λ is. c.in_default.not-join (own ∙ is))
    (λ is. c.in_default.not-list (own ∙ is)) (λ is. c.in_default.not-check (own ∙ is)) (λ is. c.in_default.not-merge (own ∙ is)) (λ is. c.in_default.not-trial (own ∙ is)))
    ∙ ap command_reading (sym (words_split words c.first-item.result c.in-len1-up.len_at_least c.first-item.is)) in
    subst (λ (meaning : Result Command ℕ). ReadsWords c.read_verb.result meaning) reading c.read_verb.ensures.value
