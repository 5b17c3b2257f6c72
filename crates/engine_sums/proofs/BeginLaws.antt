-- Where tracks begin and end.
use Rattle.std.proofs.Common.{◌≡◌, ◌+◌, ◌-◌, ◌<◌, ◌≤◌, ℕ, length, Bool, true, false, cond, ap, refl, arith, get_or}
use Rattle.std.specs.Prelude.{slice_index, nat_lt}
use Rattle.std.proofs.lemmas.Bool.{ltb-false, ltb-true}
use Rattle.disc_toc.specs.Layout.{IsLayout}
use Rattle.disc_toc.specs.Toc.{Toc}
use Rattle.disc_ids.proofs.PlaceLaws.{rising_below}
use Rattle.engine_sums.specs.Tracks.{begin_of}

-- where a track begins, and where the audio ends
pub begin_at : (toc : Toc) (i : ℕ) → i < length toc.starts → begin_of toc i ≡ slice_index toc.starts i
unfolding begin_of
begin_at toc i below = by (nat_lt i (length toc.starts)) refl
  where
    by : (b : Bool) → nat_lt i (length toc.starts) ≡ b → cond b (slice_index toc.starts i) toc.sectors ≡ slice_index toc.starts i
    by true is = refl
    by false is = let high = ltb-false _ _ is in absurd (omega arith)

pub begin_end : (toc : Toc) (i : ℕ) → length toc.starts ≤ i → begin_of toc i ≡ toc.sectors
unfolding begin_of
begin_end toc i above = by (nat_lt i (length toc.starts)) refl
  where
    by : (b : Bool) → nat_lt i (length toc.starts) ≡ b → cond b (slice_index toc.starts i) toc.sectors ≡ toc.sectors
    by true is = let low = ltb-true _ _ is in absurd (omega arith)
    by false is = refl

module _ (toc : Toc) (valid : IsLayout toc.pregap toc.starts toc.sectors) where
  -- no track begins behind the audio
  pub begin_inside : (i : ℕ) → i < length toc.starts → begin_of toc i ≤ toc.sectors
  begin_inside i below =
      let last : i + (length toc.starts - 1 - i) ≡ length toc.starts - 1 = omega arith in
      let rises : get_or toc.starts i 0 ≤ get_or toc.starts (i + (length toc.starts - 1 - i)) 0 = rising_below toc.starts valid.rising i (length toc.starts - 1 - i) (omega arith) in
      let there : get_or toc.starts (i + (length toc.starts - 1 - i)) 0 ≡ get_or toc.starts (length toc.starts - 1) 0 = ap (λ k. get_or toc.starts k 0) last in
      let here = begin_at toc i below in
      omega (arith, valid.inside, there, rises, here)

  -- each begins no later than the next
  pub begin_rises : (i : ℕ) → i < length toc.starts → begin_of toc i ≤ begin_of toc (i + 1)
  begin_rises i below = by (nat_lt (i + 1) (length toc.starts)) refl
    where
      by : (b : Bool) → nat_lt (i + 1) (length toc.starts) ≡ b → begin_of toc i ≤ begin_of toc (i + 1)
      by true is =
          let more : i + 1 < length toc.starts = ltb-true _ _ is in
          let rises : get_or toc.starts i 0 ≤ get_or toc.starts (i + 1) 0 = rising_below toc.starts valid.rising i 1 more in
          omega (arith, rises, begin_at toc i below, begin_at toc (i + 1) more)
      by false is =
          let end = begin_end toc (i + 1) (ltb-false _ _ is) in omega (arith, end, begin_inside i below)

  pub begin_within : (i : ℕ) → i ≤ length toc.starts → begin_of toc i ≤ toc.sectors
  begin_within i most = by (nat_lt i (length toc.starts)) refl
    where
      by : (b : Bool) → nat_lt i (length toc.starts) ≡ b → begin_of toc i ≤ toc.sectors
      by true is = begin_inside i (ltb-true _ _ is)
      by false is = let end = begin_end toc i (ltb-false _ _ is) in omega (arith, end)
