use Rattle.std.proofs.Common.{◌≡◌, ◌∙◌, ◌+◌, ◌-◌, ◌*◌, ◌<◌, List, ℕ, [], ◌∷◌, ◌++◌, length, map, sym, ap, ap₂, subst, rules, arith, zero-add}
use Rattle.std.specs.Prelude.{All, Contains, slice_range, sum_by}
use Rattle.std.proofs.lemmas.List.{map_push}
use Rattle.std.proofs.lemmas.List.Elements.{All-push}
use Rattle.std.proofs.lemmas.List.FromFn.{map-range_with_len_more}
use Rattle.std.proofs.lemmas.List.Sums.{sum_by_push}
use Rattle.disc_toc.specs.Toc.{toc_of}
use Rattle.image_mender.specs.declared.image.Part.{Part}
use Rattle.image_mender.specs.Joined.{AreInFiles, joined_words, word_count}
use Rattle.track_split.specs.Cuts.{cut_place, piece_words}
use Rattle.track_split.proofs.CutPlaceLaws.{place_rises, place_within}
use Rattle.track_split.proofs.cutting.cut_tracks.Goals as goal

pub overflow_sub-to : goal.overflow_sub-to
overflow_sub-to c =
    let layout = c.args.layout.now in
    let i = c.loop-i.i in
    let below : i < length layout.starts = omega (arith, c.loop-i-test.true, c.loop-i.auto.i-end, ap length c.as_slice-i-end.ensures) in
    let from : c.from-from.result ≡ cut_place (toc_of layout) i = search rules in
    let to : c.from-to.result ≡ cut_place (toc_of layout) (i + 1) = search rules in
    omega (arith, place_rises (toc_of layout) layout.valid i below, from, to)

pub cut-requires : goal.cut-requires
cut-requires c =
    let layout = c.args.layout.now in
    let i = c.loop-i.i in
    let below : i < length layout.starts = omega (arith, c.loop-i-test.true, c.loop-i.auto.i-end, ap length c.as_slice-i-end.ensures) in
    let from : c.from-from.result ≡ cut_place (toc_of layout) i = search rules in
    let to : c.from-to.result ≡ cut_place (toc_of layout) (i + 1) = search rules in
    record { within = omega (arith, place_rises (toc_of layout) layout.valid i below, place_within (toc_of layout) layout.valid (i + 1), from, to, c.requires) }

pub loop-i-preserved : goal.loop-i-preserved
loop-i-preserved c =
    let layout = c.args.layout.now in
    let toc = toc_of layout in
    let image = c.args.image.now in
    let i = c.loop-i.i in
    let below : i < length layout.starts = omega (arith, c.loop-i-test.true, c.loop-i.auto.i-end, ap length c.as_slice-i-end.ensures) in
    let from : c.from-from.result ≡ cut_place toc i = search rules in
    let to : c.from-to.result ≡ cut_place toc (i + 1) = search rules in
    let rises = place_rises toc layout.valid i below in
    let cut = c.in_ok-cut.field-0 in
    let so_far = c.loop-i.list.items in
    let items : c.push.new.self.items ≡ so_far ++ cut ∷ [] = search rules in
    record {
      words = λ files inside.
          let size : 1176 * c.from-from.result + (1176 * c.from-to.result - 1176 * c.from-from.result) ≡ 1176 * cut_place toc (i + 1) = omega arith in
          let here : joined_words cut files ≡ piece_words toc (joined_words image files) i =
          c.in_ok-cut.ensures.words files inside ∙ ap₂ (λ a b. slice_range (joined_words image files) (1176 * a) b) from size in
          ap (map (λ parts. joined_words parts files)) items ∙ map_push (λ parts. joined_words parts files) so_far cut
          ∙ ap₂ (λ (a : List (List ℕ)) b. a ++ b ∷ []) (c.loop-i.invariant.words files inside) here
          ∙ sym (map-range_with_len_more (piece_words toc (joined_words image files)) 0 i i (zero-add i));
      inside = λ files inside. subst (λ (pieces : List (List Part)). All (λ parts. AreInFiles parts files) pieces) (sym items)
          (All-push (λ parts. AreInFiles parts files) so_far cut (c.loop-i.invariant.inside files inside) (c.in_ok-cut.ensures.inside files inside));
      named = λ names named. subst (λ (pieces : List (List Part)). All (λ (parts : List Part). All (λ (part : Part). Contains names part.name) parts) pieces) (sym items)
          (All-push (λ (parts : List Part). All (λ (part : Part). Contains names part.name) parts) so_far cut (c.loop-i.invariant.named names named) (c.in_ok-cut.ensures.named names named));
      many = search rules;
      count = ap (sum_by word_count) items ∙ sum_by_push word_count so_far cut ∙ omega (arith, c.loop-i.invariant.count, c.in_ok-cut.ensures.count, from, to, rises);
    }

pub returns-clause-named : goal.returns-clause-named
returns-clause-named c = λ names named. subst (λ (pieces : List (List Part)). All (λ (parts : List Part). All (λ (part : Part). Contains names part.name) parts) pieces) (sym c.of.ensures) (c.loop-i.invariant.named names named)
