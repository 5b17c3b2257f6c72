use Rattle.std.proofs.Common.{ℕ, ◌+◌, ◌<◌, List, length, ap, arith, below_more}
use Rattle.disc_toc.specs.Toc.{toc_of}
use Rattle.accurip_match.specs.Slider.{edge_of}
use Rattle.accurip_match.proofs.edges.calm_after.Goals as goal
use Rattle.accurip_match.proofs.edges.calm_after.Goals.{then-place-edge, else-place-edge}

pub loop-j-preserved : goal.loop-j-preserved
loop-j-preserved c =
    let toc = toc_of c.args.layout.now in
    let calm : ℕ = c.if-place-edge.calm in
    let IsPast : ℕ → Type 0 = λ j. (k : ℕ) → k < 5879 → c.args.place < edge_of toc j + k → edge_of toc j + k < c.args.place + calm + 1 → ⊥ in
    elim c.if-place-edge.branch [
      | then-place-edge w ↦ record {
        within = omega arith;
        calm = below_more IsPast c.loop-j.j
            (λ j l k inside past near. c.loop-j.invariant.calm j l k inside past (omega (arith, w.min-calm.ensures, w.calm-is)))
            (λ k inside past near. omega (arith, w.min-calm.ensures, w.saturating_sub.ensures, w.calm-is, c.edge_at-edge.ensures.edge));
      }
      | else-place-edge w ↦ record {
        within = omega arith;
        calm = below_more IsPast c.loop-j.j
            (λ j l k inside past near. c.loop-j.invariant.calm j l k inside past (omega (arith, w.calm-is)))
            (λ k inside past near. omega (arith, w.if-place-edge.false, c.edge_at-edge.ensures.edge));
      }
    ]

pub returns-clause-calm : goal.returns-clause-calm
returns-clause-calm c = λ j k within inside past near. c.loop-j.invariant.calm j (omega (arith, within, c.loop-j-test.false, ap (λ (starts : List ℕ). length starts) c.as_slice.ensures)) k inside past near
