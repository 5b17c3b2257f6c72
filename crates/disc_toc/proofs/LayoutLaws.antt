-- Laws of layouts.
use Rattle.std.proofs.Common.{◌≡◌, ℕ, List, ap, subst}
use Rattle.std.proofs.Props.{props}
use Rattle.disc_toc.specs.declared.layout.Layout.{Layout}
use Rattle.disc_toc.specs.Layout.{IsLayout}
use Rattle.disc_toc.specs.Toc.{Toc, toc_of}

IsLayout-prop : (pregap : ℕ) (starts : List ℕ) (sectors : ℕ) (u v : IsLayout pregap starts sectors) → u ≡ v
IsLayout-prop pregap starts sectors = hlevel props

layout_of_toc : (toc : Toc) → IsLayout toc.pregap toc.starts toc.sectors → Layout
layout_of_toc toc valid = record { pregap = toc.pregap; starts = toc.starts; sectors = toc.sectors; valid = valid }

-- layouts that say the same are one
pub same_layout : (a b : Layout) → toc_of a ≡ toc_of b → a ≡ b
unfolding layout_of_toc
same_layout a b e =
    let F : Toc → Type 0 = λ toc. (valid : IsLayout toc.pregap toc.starts toc.sectors) → a ≡ layout_of_toc toc valid in
    subst F e (λ valid. ap (layout_of_toc (toc_of a)) (IsLayout-prop a.pregap a.starts a.sectors a.valid valid)) b.valid
