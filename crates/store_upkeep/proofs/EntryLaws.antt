-- Laws of a store's entries.
use Rattle.std.proofs.Common.{◌≢◌, ℕ, List}
use Rattle.std.specs.Prelude.{All, AllPairs}
use Rattle.std.proofs.lemmas.List.Elements.{All-filter}
use Rattle.std.proofs.lemmas.List.Kept.{AllPairs-filter}
use Rattle.rip_outside.specs.Files.{Files, IsHeld}
use Rattle.rip_outside.specs.Listing.{names_in}
use Rattle.rip_outside.proofs.ListingLaws.{names_differ, names_held}
use Rattle.store_upkeep.specs.Entries.{entries_in, is_entry}

pub entries_held : (folder : List ℕ) (files : Files) → All (λ name. IsHeld name files) (entries_in folder files)
entries_held folder files = All-filter is_entry (λ name. IsHeld name files) (names_in folder files) (names_held folder files)

pub entries_differ : (folder : List ℕ) (files : Files) → AllPairs (λ earlier later. later ≢ earlier) (entries_in folder files)
entries_differ folder files = AllPairs-filter (λ earlier later. later ≢ earlier) is_entry (names_in folder files) (names_differ folder files)
