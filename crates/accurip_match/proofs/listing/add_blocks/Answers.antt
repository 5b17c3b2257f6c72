use Rattle.std.proofs.Common.{◌≡◌, ◌+◌, ◌++◌, length, ap, arith, ◌∙◌}
use Rattle.accurip_match.specs.Matching.{block_matches}
use Rattle.accurip_match.proofs.MatchLaws.{blocks_all, blocks_more}
use Rattle.accurip_match.proofs.listing.add_blocks.Goals as goal

pub loop-i-preserved : goal.loop-i-preserved
loop-i-preserved c =
    let f = block_matches c.args.ids.now c.args.v1.track c.args.v1.offset c.args.v1.sum c.args.v2 in
    c.in_ok-add_block.ensures ∙ ap (λ l. l ++ f (c.loop-i.i + 1, c.index-blocks-i.result)) c.loop-i.invariant
    ∙ blocks_more f c.args.list.now.items c.args.blocks.now c.loop-i.i c.index-blocks-i.result (omega arith) c.index-blocks-i.is

pub returns : goal.returns
returns c =
    let all : c.loop-i.i ≡ length c.args.blocks.now = omega arith in
    c.loop-i.invariant ∙ ap (λ l. c.args.list.now.items ++ l) (blocks_all c.args.ids.now c.args.blocks.now c.args.v1.track c.args.v1.offset c.args.v1.sum c.args.v2 c.loop-i.i all)
