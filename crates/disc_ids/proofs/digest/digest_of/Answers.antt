use Rattle.std.proofs.Common.{◌≡◌, ℕ, ◌≤◌, List, ◌++◌, length, map, take, drop, arith, ap, ap₂, length-append, length-take, length-drop, ◌∙◌}
use Rattle.std.proofs.lemmas.Grind.{common_steps}
use Rattle.std.proofs.lemmas.List.{append-nil, drop_all, length-map, take_all}
use Rattle.std.proofs.lemmas.List.Edits.{map_over_more}
use Rattle.base64.specs.Engines.{standard}
use Rattle.base64.specs.GeneralPurpose.{encode_of}
use Rattle.disc_ids.specs.Digest.{id_of, spelled}
use Rattle.disc_ids.proofs.digest.digest_of.Goals as goal

-- a list all of which is spelled
spelled_all : (xs from : List ℕ) (i : ℕ) → xs ≡ map spelled (take i from) ++ drop i from → length xs ≤ i → xs ≡ map spelled from
spelled_all xs from i e past =
    let long : length from ≤ i = omega (arith, ap length e, length-append (map spelled (take i from)) (drop i from), length-map (take i from) spelled, length-take i from, length-drop i from) in
    e ∙ ap₂ (λ front rest. map spelled front ++ rest) (take_all i from long) (drop_all i from long) ∙ append-nil (map spelled from)

pub loop-character-preserved : goal.loop-character-preserved
loop-character-preserved c = grind (arith, common_steps, map_over_more spelled)

pub returns : goal.returns
unfolding id_of
returns c =
    spelled_all c.loop-character.character-items c.in_base64-id.result c.loop-character.character-index c.loop-character.invariant (omega arith)
    ∙ ap (map spelled) (c.in_base64-id.ensures ∙ ap (encode_of standard) c.digest.ensures)
