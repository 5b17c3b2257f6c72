-- The first part in which two layouts differ.
use Rattle.std.specs.Prelude.{◌==◌, ℕ, ◌+◌, Bool, not, List, [], ◌∷◌, length, Option, find}
use Rattle.disc_toc.specs.declared.difference.Differs.{Differs}
use Rattle.disc_toc.specs.declared.difference.LayoutPart.{LayoutPart}
use Rattle.disc_toc.specs.declared.difference.LayoutPart.TheVariants.{Pregap, Sectors, Tracks, Start}
use Rattle.disc_toc.specs.Toc.{Toc}

abbrev pub compared_part : LayoutPart → ℕ → ℕ → Differs
compared_part part rip kept = record { part = part; rip = rip; kept = kept }

-- the starts of two discs side by side, from this track on
abbrev pub starts_from : ℕ → List ℕ → List ℕ → List Differs
starts_from track (rip ∷ rips) (kept ∷ kepts) = compared_part (Start track) rip kept ∷ starts_from (track + 1) rips kepts
starts_from track rips kepts = []

-- the parts of two discs side by side, in the order in which they are compared
abbrev pub parts : Toc → Toc → List Differs
parts rip kept =
    compared_part Pregap rip.pregap kept.pregap
    ∷ (compared_part Sectors rip.sectors kept.sectors
    ∷ (compared_part Tracks (length rip.starts) (length kept.starts)
    ∷ starts_from 1 rip.starts kept.starts))

abbrev pub differs : Differs → Bool
differs pair = not (pair.rip == pair.kept)

abbrev pub difference_of : Toc → Toc → Option Differs
difference_of rip kept = find differs (parts rip kept)
