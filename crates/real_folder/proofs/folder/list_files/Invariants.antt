use Rattle.std.proofs.Common.{◌≡◌, true}
use Rattle.std.specs.Prelude.{All}
use Rattle.std.specs.String.{string_bytes}
use Rattle.rip_outside.specs.Listing.{stands_in}
use Rattle.real_folder.proofs.folder.list_files.Given as goal

abbrev pub invariant-loop-entry : goal.invariant-loop-entry
invariant-loop-entry g l = All (λ name. stands_in l.folder (string_bytes name) ≡ true) l.names.keys
