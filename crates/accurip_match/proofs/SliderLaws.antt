-- Laws of sliders: what they keep stays right when more of a rip comes.
use Rattle.std.proofs.Common.{◌≡◌, ℕ, zero, ◌+◌, ◌-◌, ◌*◌, ◌<◌, ◌≤◌, ◌++◌, List, [], length, get_or, take, drop, replicate, arith, inl, inr, refl, subst, sym, ap, ◌∙◌}
use Rattle.std.proofs.Math.Seq.{take-add}
use Rattle.std.proofs.lemmas.Bool.{cases_eq, cases_lt}
use Rattle.std.proofs.lemmas.List.{get_or-replicate, get_or_past, length-drop, length-replicate, length-take}
use Rattle.disc_toc.specs.Toc.{Toc}
use Rattle.accurip_match.specs.declared.prefix.Prefix.{Prefix}
use Rattle.accurip_match.specs.Slider.{IsCalm, KeptSlider, Notes, PrefixStandsFor, SliderStandsFor, edge_of, prefix_of}
use Rattle.accurip_match.proofs.PrefixLaws.{prefix-append, prefix-past, prefix-silent}

-- ---- one list of notes

-- those of places that have come are right, where `part` picks a sum
abbrev pub AreNoted : (Prefix → ℕ) → Toc → ℕ → List ℕ → List ℕ → Type 0
AreNoted part toc place y notes = (j k : ℕ) → j ≤ length toc.starts → k < 5879 → edge_of toc j + k ≤ place → get_or notes (5879 * j + k) 0 ≡ part (prefix_of y (edge_of toc j + k))

noted_more : (part : Prefix → ℕ) (toc : Toc) (place next sum : ℕ) (prefix : Prefix) (y words old new : List ℕ)
    → length y + 5878 ≡ 2 * place → IsCalm toc place next → PrefixStandsFor prefix next (y ++ words) → sum ≡ part prefix → Notes toc next sum old new
    → AreNoted part toc place y old → AreNoted part toc next (y ++ words) new
noted_more part toc place next sum prefix y words old new whole calm now is notes had j k within inside come =
    elim (cases_eq (edge_of toc j + k) next) [
      | inl here ↦ notes.here j k within inside here ∙ is ∙ ap part now.sums ∙ ap (λ n. part (prefix_of (y ++ words) n)) (sym here)
      | inr other ↦
          elim (cases_lt place (edge_of toc j + k)) [
            | inl after ↦ absurd (calm j k within inside after (omega arith))
            | inr before ↦
                notes.others j k within inside other ∙ had j k within inside before
                ∙ sym (ap part (prefix-append y words (edge_of toc j + k) (omega arith)))
          ]
    ]

notes_in : (toc : Toc) (place sum : ℕ) (old new old' new' : List ℕ) → old ≡ old' → new ≡ new' → Notes toc place sum old new → Notes toc place sum old' new'
notes_in toc place sum old new old' new' begin end notes =
    subst (λ (new : List ℕ). Notes toc place sum old' new) end (subst (λ (old : List ℕ). Notes toc place sum old new) begin notes)

-- ---- a slider

-- the next words, of which the last sample alone may end at an edge
pub slider_more : (toc : Toc) (position count : ℕ) (before after : Prefix) (y words values products values' products' old new old' new' : List ℕ)
    → SliderStandsFor record { toc = toc; position = position; prefix = before; values = values; products = products } y
    → IsCalm toc (position + 2939) (position + 2939 + count)
    → PrefixStandsFor after (position + 2939 + count) (y ++ words)
    → old ≡ values → new ≡ values' → Notes toc (position + count + 2939) after.values old new
    → old' ≡ products → new' ≡ products' → Notes toc (position + count + 2939) after.products old' new'
    → SliderStandsFor record { toc = toc; position = position + count; prefix = after; values = values'; products = products' } (y ++ words)
slider_more toc position count before after y words values products values' products' old new old' new' now calm stand begin end notes begin' end' notes' =
    let place : position + 2939 + count ≡ position + count + 2939 = omega arith in
    let calm' : IsCalm toc (position + 2939) (position + count + 2939) = subst (λ (n : ℕ). IsCalm toc (position + 2939) n) place calm in
    let stand' : PrefixStandsFor after (position + count + 2939) (y ++ words) = subst (λ (n : ℕ). PrefixStandsFor after n (y ++ words)) place stand in
    record {
      prefix = stand';
      values = noted_more (λ prefix. prefix.values) toc (position + 2939) (position + count + 2939) after.values after y words values values' now.prefix.whole calm' stand' refl
          (notes_in toc (position + count + 2939) after.values old new values values' begin end notes) now.values;
      products = noted_more (λ prefix. prefix.products) toc (position + 2939) (position + count + 2939) after.products after y words products products' now.prefix.whole calm' stand' refl
          (notes_in toc (position + count + 2939) after.products old' new' products products' begin' end' notes') now.products;
    }

zeros : (notes : List ℕ) (n i : ℕ) → notes ≡ replicate n 0 → ◌≡◌ {A = ℕ} (get_or notes i 0) 0
zeros notes n i made =
    ap (λ (notes : List ℕ). get_or notes i 0) made ∙
    elim (cases_lt i n) as (λ _. ◌≡◌ {A = ℕ} (get_or (replicate n 0) i 0) 0) [
      | inl inside ↦ get_or-replicate n i 0 0 inside
      | inr past ↦ get_or_past (replicate n 0) i 0 (omega (arith, length-replicate n zero))
    ]

-- no word has come
pub slider_none : (toc : Toc) (n m : ℕ) (values products : List ℕ) → values ≡ replicate n 0 → products ≡ replicate m 0
    → SliderStandsFor record { toc = toc; position = 0; prefix = record { values = 0; products = 0 }; values = values; products = products } []
slider_none toc n m values products made made' = record {
  prefix = record { whole = refl; sums = sym (prefix-silent [] 2939 (omega arith)) };
  values = λ j k within inside come. zeros values n (5879 * j + k) made ∙ sym (ap (λ (p : Prefix). p.values) (prefix-silent [] (edge_of toc j + k) come));
  products = λ j k within inside come. zeros products m (5879 * j + k) made' ∙ sym (ap (λ (p : Prefix). p.products) (prefix-silent [] (edge_of toc j + k) come));
}

-- the sums of all samples are those up to any place past the last
pub slider_past : (kept : KeptSlider) (y : List ℕ) (place : ℕ) → SliderStandsFor kept y → kept.position + 2939 ≤ place → kept.prefix ≡ prefix_of y place
slider_past kept y place now past = now.prefix.sums ∙ sym (prefix-past y (kept.position + 2939) place now.prefix.whole past)

-- ---- pieces of words

pub length-piece : (words : List ℕ) (at calm : ℕ) → 2 * (at + calm + 1) ≤ length words → length (take (2 * (at + calm + 1) - 2 * at) (drop (2 * at) words)) ≡ 2 * (calm + 1)
length-piece words at calm within = omega (arith, length-take (2 * (at + calm + 1) - 2 * at) (drop (2 * at) words), length-drop (2 * at) words)

pub take-piece : (words : List ℕ) (at calm : ℕ) → take (2 * at) words ++ take (2 * (at + calm + 1) - 2 * at) (drop (2 * at) words) ≡ take (2 * (at + calm + 1)) words
take-piece words at calm =
    let whole : 2 * at + (2 * (at + calm + 1) - 2 * at) ≡ 2 * (at + calm + 1) = omega arith in
    sym (take-add (2 * at) (2 * (at + calm + 1) - 2 * at) words) ∙ ap (λ n. take n words) whole
