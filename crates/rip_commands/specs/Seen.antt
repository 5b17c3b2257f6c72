-- What clauses see of a shelf and of a sink at a moment.
use Rattle.std.specs.Prelude.{ℕ, List, Option}
use Rattle.rip_outside.specs.declared.shelf.Shelf.{Ghosts as ShelfMeaning}
use Rattle.rip_outside.specs.declared.fault.ShelfCall.{ShelfCall}
use Rattle.rip_outside.specs.declared.sink.Sink.{Ghosts as SinkMeaning}
use Rattle.rip_outside.specs.Files.{Files}
use Rattle.rip_commands.specs.Look.{Look}

-- a shelf and a sink at one moment
pub record Seen : Type 0 where
  pub held : Option Files
  pub faults : ShelfCall → ℕ
  pub taken : ℕ
  pub told : Option (List ℕ)
  pub sink_faults : ℕ

abbrev pub seen : {S K : Type 0} → ShelfMeaning S → SinkMeaning K → S → K → Seen
seen shelf_means sink_means shelf sink = record {
  held = shelf_means.held shelf;
  faults = shelf_means.faults shelf;
  taken = shelf_means.taken shelf;
  told = sink_means.told sink;
  sink_faults = sink_means.faults sink;
}

-- the shelf of what is seen
abbrev pub look_of : Seen → Look
look_of s = record { held = s.held; faults = s.faults; taken = s.taken }
