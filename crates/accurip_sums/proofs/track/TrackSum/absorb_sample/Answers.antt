use Rattle.std.proofs.Common.{◌≡◌, ◌+◌, ◌%◌, ◌^◌, ap, subst, sym, ◌∙◌}
use Rattle.accurip_sums.specs.Track.{counts, halves}
use Rattle.accurip_sums.specs.StandsFor.{KeptTrack, TrackStandsFor}
use Rattle.accurip_sums.proofs.SumLaws.{stands_counted, stands_left_out}
use Rattle.accurip_sums.proofs.track.TrackSum.absorb_sample.Goals as goal

pub returns-then-is_counted-clause-stands : goal.returns-then-is_counted-clause-stands
returns-then-is_counted-clause-stands c = λ y now.
    stands_counted _ y c.args.left c.args.right (subst (λ (kept : KeptTrack). TrackStandsFor kept y) (sym c.self.view_is) now) c.plus-self-inside.result
    (subst (λ (kept : KeptTrack). counts kept.first kept.last kept.samples (kept.position + 1) ≡ c.args.is_counted) (sym c.self.view_is) c.requires.known ∙ c.if-is_counted.true)
    (c.plus-self-inside.ensures.v1 ∙ ap (λ p. (c.self.inside.sums.v1 + p) % 2 ^ 32) c.product.ensures)
    (c.plus-self-inside.ensures.v2 ∙ ap (λ p. (c.self.inside.sums.v2 + halves p) % 2 ^ 32) c.product.ensures)

pub returns-else-is_counted-clause-stands : goal.returns-else-is_counted-clause-stands
returns-else-is_counted-clause-stands c = λ y now.
    stands_left_out _ y c.args.left c.args.right (subst (λ (kept : KeptTrack). TrackStandsFor kept y) (sym c.self.view_is) now)
    (subst (λ (kept : KeptTrack). counts kept.first kept.last kept.samples (kept.position + 1) ≡ c.args.is_counted) (sym c.self.view_is) c.requires.known ∙ c.if-is_counted.false)
