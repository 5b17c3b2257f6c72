use Rattle.std.proofs.Common.{◌≡◌, ◌∙◌, ◌++◌, ◌∷◌, [], List, ℕ, ap, append_assoc, string_bytes}
use Rattle.std.specs.Prelude.{codes}
use Rattle.std.proofs.lemmas.Result.{IfOk-weaker}
use Rattle.rip_report.specs.Texts.{line}
use Rattle.rip_report.proofs.sums.two_lines.Goals as goal

two_parts : (s t : List ℕ) → s ++ (10 ∷ (codes "key " ++ (t ++ 10 ∷ []))) ≡ (s ++ 10 ∷ []) ++ ((codes "key " ++ t) ++ 10 ∷ [])
two_parts s t = rw append_assoc

pub returns : goal.returns
returns c = IfOk-weaker c.format.result _ (λ made. string_bytes made ≡ line (codes "musicbrainz " ++ c.args.musicbrainz.now) ++ line (codes "key " ++ c.args.key.now)) (λ made so. so ∙ ap (λ x. codes "musicbrainz " ++ x) (two_parts c.args.musicbrainz.now c.args.key.now)) c.format.ensures.ok
