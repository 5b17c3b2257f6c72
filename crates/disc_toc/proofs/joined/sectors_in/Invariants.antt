use Rattle.std.proofs.Common.{◌≡◌, ◌*◌, ◌≤◌, take}
use Rattle.std.specs.Prelude.{sum_by}
use Rattle.disc_toc.specs.Joined.{file_sectors}
use Rattle.disc_toc.proofs.joined.sectors_in.Given as goal

abbrev pub invariant-loop-count : goal.invariant-loop-count
invariant-loop-count l = record {
  value : l.total ≡ sum_by file_sectors (take l.count-index l.words);
  bound : l.total ≤ 1826091 * l.count-index;
}
