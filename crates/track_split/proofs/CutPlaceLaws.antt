-- The places at which a disc is cut.
use Rattle.std.proofs.Common.{◌≡◌, ℕ, zero, suc, ◌+◌, ◌<◌, ◌≤◌, length, Bool, true, false, refl, arith, get_or}
use Rattle.std.specs.Prelude.{◌==◌, nat_lt}
use Rattle.std.proofs.lemmas.Bool.{ltb-false, ltb-true}
use Rattle.std.proofs.lemmas.Bool.Decides.{nat_tests}
use Rattle.std.proofs.lemmas.List.{get_or_default, get_or_past}
use Rattle.disc_toc.specs.Layout.{IsLayout}
use Rattle.disc_toc.specs.Toc.{Toc}
use Rattle.disc_ids.proofs.PlaceLaws.{start_below}
use Rattle.track_split.specs.Cuts.{cut_place}

not_first : (i : ℕ) → 0 < i → (i == 0) ≡ false
not_first i some = grind (arith, nat_tests)

-- each track but the first is cut where it begins
pub place_at : (toc : Toc) (i : ℕ) → 0 < i → i < length toc.starts → cut_place toc i ≡ get_or toc.starts i 0
place_at toc i some below = rw (not_first i some) (get_or_default toc.starts i toc.sectors 0 below)

pub place_end : (toc : Toc) (i : ℕ) → 0 < i → length toc.starts ≤ i → cut_place toc i ≡ toc.sectors
place_end toc i some end = rw (not_first i some) (get_or_past toc.starts i toc.sectors end)

module _ (toc : Toc) (valid : IsLayout toc.pregap toc.starts toc.sectors) where
  -- no cut is behind the audio
  pub place_within : (i : ℕ) → cut_place toc i ≤ toc.sectors
  place_within zero = omega arith
  place_within (suc i) = by (nat_lt (suc i) (length toc.starts)) refl
    where
      by : (b : Bool) → nat_lt (suc i) (length toc.starts) ≡ b → cut_place toc (suc i) ≤ toc.sectors
      by true is =
          let below : suc i < length toc.starts = ltb-true _ _ is in
          omega (arith, place_at toc (suc i) (omega arith) below, start_below toc.pregap toc.starts toc.sectors valid (suc i) below)
      by false is = omega (arith, place_end toc (suc i) (omega arith) (ltb-false _ _ is))

  -- each is before the next
  pub place_rises : (i : ℕ) → i < length toc.starts → cut_place toc i ≤ cut_place toc (i + 1)
  place_rises zero below = omega arith
  place_rises (suc i) below = by (nat_lt (suc i + 1) (length toc.starts)) refl
    where
      by : (b : Bool) → nat_lt (suc i + 1) (length toc.starts) ≡ b → cut_place toc (suc i) ≤ cut_place toc (suc i + 1)
      by true is =
          let more : suc i + 1 < length toc.starts = ltb-true _ _ is in
          let rises : get_or toc.starts (suc i) 0 < get_or toc.starts (suc i + 1) 0 = valid.rising (suc i) more in
          omega (arith, rises, place_at toc (suc i) (omega arith) below, place_at toc (suc i + 1) (omega arith) more)
      by false is = omega (arith, place_within (suc i), place_end toc (suc i + 1) (omega arith) (ltb-false _ _ is))
