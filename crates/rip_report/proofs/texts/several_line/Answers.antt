use Rattle.std.proofs.Common.{◌≡◌, ◌∙◌, ◌++◌, ◌∷◌, [], List, ℕ, ap, append_assoc, string_bytes, w32}
use Rattle.std.specs.Prelude.{codes}
use Rattle.std.specs.Fmt.{decimal}
use Rattle.std.proofs.lemmas.Int.{to_z-of_z}
use Rattle.std.proofs.lemmas.Result.{IfOk-weaker}
use Rattle.rip_report.specs.Texts.{offset_text, several_line}
use Rattle.rip_report.proofs.texts.several_line.Goals as goal

two_numbers : (s d t e : List ℕ) → s ++ (d ++ (32 ∷ (t ++ (e ++ 10 ∷ [])))) ≡ (s ++ d ++ 32 ∷ [] ++ (t ++ e)) ++ 10 ∷ []
two_numbers s d t e = simp append_assoc

pub returns : goal.returns
returns c =
    let sized : c.sign_of-sign.result.now ++ decimal c.size_of-size.result ≡ offset_text c.args.first = ap (λ n. c.sign_of-sign.result.now ++ decimal n) c.size_of-size.ensures ∙ c.sign_of-sign.ensures ∙ ap offset_text (to_z-of_z w32 c.args.first c.ranges.first) in
    let other : c.sign_of-other_sign.result.now ++ decimal c.size_of-other_size.result ≡ offset_text c.args.second = ap (λ n. c.sign_of-other_sign.result.now ++ decimal n) c.size_of-other_size.ensures ∙ c.sign_of-other_sign.ensures ∙ ap offset_text (to_z-of_z w32 c.args.second c.ranges.second) in
    IfOk-weaker c.format.result _ (λ made. string_bytes made ≡ several_line c.args.first c.args.second)
    (λ made so. so ∙ rw (← sized, ← other)
    (ap (λ x. codes "several " ++ x) (two_numbers c.sign_of-sign.result.now (decimal c.size_of-size.result) c.sign_of-other_sign.result.now (decimal c.size_of-other_size.result)))) c.format.ensures.ok
