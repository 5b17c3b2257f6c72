use Rattle.std.proofs.Common.{◌≡◌, ◌+◌, ◌++◌, map}
use Rattle.std.specs.List.{range_with_len}
use Rattle.track_split.specs.Sheets.{track_file}
use Rattle.track_split.proofs.naming.split_names.Given as goal

abbrev pub invariant-loop-i : goal.invariant-loop-i
invariant-loop-i l = l.list.items ≡ map (λ i. l.folder ++ track_file (i + 1)) (range_with_len 0 l.i)
