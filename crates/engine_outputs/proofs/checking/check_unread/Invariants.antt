use Rattle.std.proofs.Common.{◌≡◌, List, ℕ, drop, false, map, take}
use Rattle.std.specs.Prelude.{All}
use Rattle.std.specs.List.{list_any}
use Rattle.std.specs.Str.{bytes_eq}
use Rattle.rip_outside.specs.Outputs.{part_of}
use Rattle.engine_outputs.specs.Writing.{none_read}
use Rattle.engine_outputs.proofs.checking.check_unread.Given as goal

abbrev pub invariant-loop-part : goal.invariant-loop-part
invariant-loop-part l = record {
  read : (outs : List (List ℕ)) → l.parts ≡ map part_of outs → none_read outs l.read ≡ none_read (drop l.part-index outs) l.read;
  unread : All (λ part. list_any (bytes_eq part) l.read ≡ false) (take l.part-index l.parts);
}
