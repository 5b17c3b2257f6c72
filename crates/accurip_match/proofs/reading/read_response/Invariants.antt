use Rattle.std.proofs.Common.{◌-◌, ◌≤◌, length}
use Rattle.accurip_match.specs.Response.{AreBlocks}
use Rattle.accurip_match.proofs.reading.read_response.Given as goal

abbrev pub invariant-whole : goal.invariant-whole
invariant-whole l = record {
  inside : l.at ≤ length l.bytes;
  blocks : AreBlocks l.bytes 0 l.at l.blocks.items;
}

abbrev pub decreases-whole : goal.decreases-whole
decreases-whole l = length l.bytes - l.at
