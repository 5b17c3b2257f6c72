use Rattle.std.proofs.Common.{◌≡◌, ◌∙◌, ◌+◌, ◌*◌, ◌++◌, ◌==◌, [], ℕ, List, length, take, ap, ap₂, sym, arith}
use Rattle.std.specs.Prelude.{ℤ, slice_range}
use Rattle.std.proofs.lemmas.Int.{to_z-of_z}
use mir.Syntax.{w32}
use mir.Val.{of_z, to_z}
use Rattle.rip_outside.proofs.FilesLaws.{if_told, when_told}
use Rattle.disc_toc.specs.Toc.{toc_of}
use Rattle.accurip_sums.specs.Track.{track_sums}
use Rattle.image_mender.proofs.JoinLaws.{length-joined_words}
use Rattle.image_mender.specs.Joined.{joined_words}
use Rattle.engine_sums.specs.Tracks.{begin_of}
use Rattle.engine_sums.proofs.BeginLaws.{begin_rises, begin_within}
use Rattle.cmd_match.specs.Span.{moved_words, spanned_words}
use Rattle.cmd_match.proofs.MovedLaws.{moved_sums, spanned_by}
use Rattle.cmd_match.proofs.moved.sum_moved.Goals as goal

pub of-span-requires-clause-rises : goal.of-span-requires-clause-rises
of-span-requires-clause-rises g c =
    let layout = c.args.layout.now in
    omega (arith, begin_rises (toc_of layout) layout.valid c.args.i c.requires.track, c.begin_of-begin.ensures, c.begin_of-end.ensures)

pub of-span-requires-clause-within : goal.of-span-requires-clause-within
of-span-requires-clause-within g c =
    let layout = c.args.layout.now in
    omega (arith, begin_within (toc_of layout) layout.valid (c.args.i + 1) (omega (arith, c.requires.track)), c.begin_of-end.ensures, c.requires.count, c.words.ensures.count)

pub overflow_sub-end : goal.overflow_sub-end
overflow_sub-end g c =
    let layout = c.args.layout.now in
    omega (arith, begin_rises (toc_of layout) layout.valid c.args.i c.requires.track, c.begin_of-begin.ensures, c.begin_of-end.ensures)

pub returns-clause-sums : goal.returns-clause-sums
returns-clause-sums g c = if_told (g.S.Shelf.held c.args.shelf.now) _ (λ files told.
    let layout = c.args.layout.now in
    let toc = toc_of layout in
    let i = c.args.i in
    let rip : List ℕ = joined_words c.args.image.now files in
    let span = c.of-span.result in
    let long : length rip ≡ c.words.result = length-joined_words c.args.image.now files (c.requires.inside files told) ∙ sym c.words.ensures.count in
    let first = c.absorb.ensures.stands [] c.new-sum.ensures.stands in
    let second = when_told (g.S.Shelf.held c.args.shelf.now) _ c.in_ok-sum_words.ensures.stands files told _ first in
    let third = c.absorb-2.ensures.stands _ second in
    let sums = c.finish.ensures _ third in
    let is_first : c.absorb-2.new.self.first ≡ (i == 0) = c.absorb-2.ensures.first ∙ c.in_ok-sum_words.ensures.first ∙ c.absorb.ensures.first ∙ c.new-sum.ensures.first in
    let is_last : c.absorb-2.new.self.last ≡ (i + 1 == length layout.starts) = c.absorb-2.ensures.last ∙ c.in_ok-sum_words.ensures.last ∙ c.absorb.ensures.last ∙ c.new-sum.ensures.last ∙ ap (λ (starts : List ℕ). i + 1 == length starts) c.as_slice-tracks.ensures in
    let begin : 1176 * c.from.result ≡ 1176 * begin_of toc i = omega (arith, c.begin_of-begin.ensures) in
    let end : 1176 * c.from-2.result ≡ 1176 * begin_of toc (i + 1) = omega (arith, c.begin_of-end.ensures) in
    let moved : moved_words rip c.args.offset (1176 * c.from.result) (1176 * c.from-2.result) ≡ spanned_words rip span =
    let kept : to_z w32 (of_z w32 c.args.offset) ≡ c.args.offset = to_z-of_z w32 c.args.offset c.ranges.offset in
    ap (λ (d : ℤ). moved_words rip d (1176 * c.from.result) (1176 * c.from-2.result)) (sym kept) ∙ c.of-span.ensures.words rip long in
    let words = spanned_by rip c.args.silence.now span c.requires.silence c.of-span.ensures.before c.of-span.ensures.after
    ∙ sym moved ∙ ap₂ (moved_words rip c.args.offset) begin end in
    let told_words : List ℕ = [] ++ take span.before c.args.silence.now ++ slice_range rip span.from span.end ++ take span.after c.args.silence.now in
    sums ∙ ap₂ (λ first last. track_sums first last told_words) is_first is_last ∙ ap (track_sums (i == 0) (i + 1 == length layout.starts)) words ∙ sym (moved_sums toc rip i c.args.offset c.requires.track))
