-- Laws of ids that are digests.
use Rattle.std.proofs.Common.{◌≡◌, ℕ, ◌<◌, Bool, true, false, cond, List, length, map, get_or, arith, inl, inr, eqb}
use Rattle.std.specs.Str.{IsAscii}
use Rattle.std.proofs.lemmas.Bool.{cases_lt}
use Rattle.std.proofs.lemmas.List.{get_or-map, get_or_past, length-map}
use Rattle.base64.specs.Engines.{standard}
use Rattle.base64.proofs.EngineFacts.{IsAscii-encode_of}
use Rattle.base64.specs.GeneralPurpose.{encode_of}
use Rattle.sha1.specs.Sha1.{sha1}
use Rattle.disc_ids.specs.Digest.{id_of, spelled}

chosen_below : (b : Bool) (x y : ℕ) → x < 128 → y < 128 → cond b x y < 128
chosen_below true x y low high = low
chosen_below false x y low high = high

spelled_below : (c : ℕ) → c < 128 → spelled c < 128
spelled_below c low =
    chosen_below (eqb c 43) 46 _ (omega arith) (chosen_below (eqb c 47) 95 _ (omega arith) (chosen_below (eqb c 61) 45 c (omega arith) low))

-- an id is ASCII text
pub IsAscii-id_of : (text : List ℕ) → IsAscii (id_of text)
unfolding id_of
IsAscii-id_of text = λ i.
    let code = encode_of standard (sha1 text) in
    elim (cases_lt i (length code)) [
      | inl inside ↦ rw (get_or-map spelled code i 0 0 inside) (spelled_below (get_or code i 0) (IsAscii-encode_of standard (sha1 text) i))
      | inr past ↦ (let none : get_or (map spelled code) i 0 ≡ 0 = get_or_past (map spelled code) i 0 (omega (arith, length-map code spelled)) in omega (arith, none))
    ]
