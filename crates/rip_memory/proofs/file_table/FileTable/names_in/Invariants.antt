use Rattle.std.proofs.Common.{◌≡◌, map}
use Rattle.std.specs.Prelude.{filter}
use Rattle.std.specs.Map.Iter.{deref}
use Rattle.std.specs.String.{string_bytes}
use Rattle.rip_outside.specs.Listing.{stands_in}
use Rattle.rip_memory.proofs.file_table.FileTable.names_in.Given as goal

abbrev pub invariant-loop-name : goal.invariant-loop-name
invariant-loop-name l = l.names.items ≡ filter (stands_in l.folder) (map string_bytes (map deref l.yielded))
