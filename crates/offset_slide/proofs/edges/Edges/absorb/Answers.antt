use Rattle.std.proofs.Common.{◌*◌, ◌^◌, ◌<◌, ap, arith, refl, subst, sym, ◌∙◌}
use Rattle.std.proofs.lemmas.List.{with_items_is}
use Rattle.std.proofs.lemmas.List.Elements.{All-from_get_or}
use Rattle.column_map.specs.Columns.{stride}
use Rattle.offset_slide.specs.Edges.{EdgesStandFor, KeptEdges}
use Rattle.offset_slide.proofs.EdgeLaws.{stands_more, takes-same}
use Rattle.offset_slide.proofs.edges.Edges.absorb.Goals as goal

pub returns-clause-stands : goal.returns-clause-stands
returns-clause-stands c = λ y now.
    stands_more _ _ y c.args.words.now (subst (λ (kept : KeptEdges). EdgesStandFor kept y) (sym c.self.view_is) now)
    (All-from_get_or (λ w. w < 2 ^ 16) c.args.words.now 0 (λ k l. omega (arith, c.type_inv.words k))) refl refl
    (sym c.self.inside.front.ok.0 ∙ c.self.invariant.first) (sym c.self.inside.back.ok.0 ∙ c.self.invariant.last)
    (takes-same 0 0 _ c.args.words.now _ _ _ _ refl c.deref_mut.ensures.value (sym (with_items_is c.self.inside.front c.take_part.new.kept (omega (arith, c.take_part.ensures.long, c.deref_mut.ensures.len)))) c.take_part.ensures)
    (takes-same _ _ _ c.args.words.now _ _ _ _ (ap (λ n. n * stride) c.per_column.ensures.value) c.deref_mut-2.ensures.value (sym (with_items_is c.self.inside.back c.take_part-2.new.kept (omega (arith, c.take_part-2.ensures.long, c.deref_mut-2.ensures.len)))) c.take_part-2.ensures)
