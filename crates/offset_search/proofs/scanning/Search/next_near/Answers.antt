use Rattle.std.proofs.Common.{◌≡◌, arith, refl, subst, ◌∙◌, ℤ, pos, ◌+ℤ◌, Some, None, w32, to_z, of_z}
use Rattle.std.proofs.lemmas.Int.{ints, to_z-of_z}
use Rattle.column_map.specs.Columns.{per_column}
use Rattle.syndrome_stream.specs.Starts.{StartsStandFor}
use Rattle.offset_search.specs.Near.{IsNextNear}
use Rattle.offset_search.specs.Steps.{LooksNear}
use Rattle.offset_search.proofs.Scanned.{far_none, far_more, first_near, none_near}
use Rattle.offset_search.proofs.scanning.Search.next_near.Goals as goal

pub loop-d-init : goal.loop-d-init
loop-d-init g c = record {
  starts = refl;
  wanted = refl;
  found = refl;
  least = omega (arith, ints);
  most = omega (arith, ints, c.requires.offset.most, to_z-of_z w32 c.args.from c.ranges.from);
  far = λ y stand. far_none g.row.P (per_column (g.S.Starts.sectors c.args.self.now.starts)) y c.args.self.now.wanted _ _ refl;
}

pub loop-d-preserved : goal.loop-d-preserved
loop-d-preserved g c = record {
  starts = c.in_default.ensures.starts ∙ c.loop-d.invariant.starts;
  wanted = c.in_default.ensures.wanted ∙ c.loop-d.invariant.wanted;
  found = c.in_default.ensures.found ∙ c.loop-d.invariant.found;
  least = omega (arith, ints);
  most = omega (arith, ints);
  far = λ y stand.
      let next : to_z w32 (of_z w32 (to_z w32 c.loop-d.d-bits +ℤ pos 1)) ≡ to_z w32 c.loop-d.d-bits +ℤ pos 1 = omega (arith, ints) in
      far_more g.row.P (per_column (g.S.Starts.sectors c.args.self.now.starts)) y c.args.self.now.wanted _ (to_z w32 c.loop-d.d-bits) _ next
      (c.loop-d.invariant.far y stand)
      (subst (λ w. LooksNear g.row.P (per_column (g.S.Starts.sectors c.args.self.now.starts)) y (to_z w32 c.loop-d.d-bits) w None) c.loop-d.invariant.wanted
      (subst
      (λ s. StartsStandFor g.row.P (g.S.Starts.sectors s) (g.S.Starts.row s) y → LooksNear g.row.P (per_column (g.S.Starts.sectors s)) y (to_z w32 c.loop-d.d-bits) c.loop-d.self.wanted None)
      c.loop-d.invariant.starts (c.in_default.ensures.looks y) stand));
}

pub returns-in-Some : goal.returns-in-Some
returns-in-Some g c = record {
  starts = c.in-Some.ensures.starts ∙ c.loop-d.invariant.starts;
  wanted = c.in-Some.ensures.wanted ∙ c.loop-d.invariant.wanted;
  found = c.in-Some.ensures.found ∙ c.loop-d.invariant.found;
  next = λ y stand.
      subst (λ (from : ℤ). IsNextNear g.row.P (per_column (g.S.Starts.sectors c.args.self.now.starts)) y c.args.self.now.wanted from (Some c.in-Some.candidate)) (to_z-of_z w32 c.args.from c.ranges.from)
      (first_near g.row.P (per_column (g.S.Starts.sectors c.args.self.now.starts)) y c.args.self.now.wanted _ (to_z w32 c.loop-d.d-bits) c.in-Some.candidate
      c.loop-d.invariant.least (c.loop-d.invariant.far y stand)
      (subst (λ w. LooksNear g.row.P (per_column (g.S.Starts.sectors c.args.self.now.starts)) y (to_z w32 c.loop-d.d-bits) w (Some c.in-Some.candidate)) c.loop-d.invariant.wanted
      (subst
      (λ s. StartsStandFor g.row.P (g.S.Starts.sectors s) (g.S.Starts.row s) y
      → LooksNear g.row.P (per_column (g.S.Starts.sectors s)) y (to_z w32 c.loop-d.d-bits) c.loop-d.self.wanted (Some c.in-Some.candidate))
      c.loop-d.invariant.starts (c.in-Some.ensures.looks y) stand)));
}

pub returns : goal.returns
returns g c = record {
  starts = c.loop-d.invariant.starts;
  wanted = c.loop-d.invariant.wanted;
  found = c.loop-d.invariant.found;
  next = λ y stand.
      subst (λ (from : ℤ). IsNextNear g.row.P (per_column (g.S.Starts.sectors c.args.self.now.starts)) y c.args.self.now.wanted from None) (to_z-of_z w32 c.args.from c.ranges.from)
      (none_near g.row.P (per_column (g.S.Starts.sectors c.args.self.now.starts)) y c.args.self.now.wanted _ (to_z w32 c.loop-d.d-bits) (omega (arith, ints)) (c.loop-d.invariant.far y stand));
}
