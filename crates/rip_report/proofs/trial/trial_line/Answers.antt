use Rattle.std.proofs.Common.{◌≡◌, ◌∙◌, ◌++◌, ◌∷◌, [], List, ℕ, ap, append_assoc, string_bytes, w32}
use Rattle.std.specs.Prelude.{codes}
use Rattle.std.specs.Fmt.{decimal}
use Rattle.std.proofs.lemmas.Int.{to_z-of_z}
use Rattle.std.proofs.lemmas.Result.{IfOk-weaker}
use Rattle.rip_report.specs.Texts.{offset_text}
use Rattle.rip_report.specs.Trial.{trial_line}
use Rattle.rip_report.proofs.trial.trial_line.Goals as goal

four_numbers : (a b x d y s t e z : List ℕ) → a ++ (b ++ (x ++ (d ++ (y ++ (s ++ (t ++ (e ++ (z ++ 10 ∷ [])))))))) ≡ (a ++ b ++ x ++ d ++ y ++ (s ++ t) ++ e ++ z) ++ 10 ∷ []
four_numbers a b x d y s t e z = simp append_assoc

pub returns : goal.returns
returns c =
    let sized : c.sign_of-sign.result.now ++ decimal c.size_of-size.result ≡ offset_text c.args.shift = ap (λ n. c.sign_of-sign.result.now ++ decimal n) c.size_of-size.ensures ∙ c.sign_of-sign.ensures ∙ ap offset_text (to_z-of_z w32 c.args.shift c.ranges.shift) in
    IfOk-weaker c.format.result _ (λ made. string_bytes made ≡ trial_line c.args.sectors c.args.seed c.args.shift c.args.hits)
    (λ made so. so ∙ rw (← sized)
    (four_numbers (codes "trial sectors ") (decimal c.args.sectors) (codes " seed ") (decimal c.args.seed) (codes " shift ") c.sign_of-sign.result.now (decimal c.size_of-size.result) (codes " hits ") (decimal c.args.hits))) c.format.ensures.ok
