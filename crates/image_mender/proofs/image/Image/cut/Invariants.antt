use Rattle.std.proofs.Common.{◌≡◌, ◌++◌, drop}
use Rattle.image_mender.proofs.CutLaws.{cut_parts}
use Rattle.image_mender.proofs.image.Image.cut.Given as goal

-- the parts so far, and those that the parts that are left have of what is left
abbrev pub invariant-loop-part : goal.invariant-loop-part
invariant-loop-part l = l.parts.items ++ cut_parts l.skip l.left (drop l.part-index l.self) ≡ cut_parts l.from l.words l.self
