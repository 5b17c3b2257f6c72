use Rattle.std.proofs.Common.{◌≡◌, ◌+◌, ◌*◌, ℕ, List, get_or, arith, subst, sym}
use Rattle.accurip_match.specs.declared.block.Block.{Block}
use Rattle.accurip_match.specs.Response.{AreBlocks, block_end}
use Rattle.accurip_match.proofs.ResponseLaws.{AreBlocks-push}
use Rattle.accurip_match.proofs.reading.read_response.Goals as goal

pub whole-preserved : goal.whole-preserved
whole-preserved c =
    let bytes = c.args.bytes.now in
    let end : block_end bytes c.whole.at ≡ c.whole.at + (13 + 9 * get_or bytes c.whole.at 0) = omega arith in
    record {
      inside = omega arith;
      blocks = subst (λ (end : ℕ). AreBlocks bytes 0 end c.push.new.self.items) end
          (subst (λ (blocks : List Block). AreBlocks bytes 0 (block_end bytes c.whole.at) blocks) (sym c.in-Ok-push.ensures.items)
          (AreBlocks-push bytes 0 c.whole.at c.whole.blocks.items c.in-Ok.block c.whole.invariant.blocks c.in-Ok.ensures));
    }
