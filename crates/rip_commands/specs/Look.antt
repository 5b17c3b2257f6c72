-- What clauses see of a shelf at a moment.
use Rattle.std.specs.Prelude.{ℕ, Option}
use Rattle.rip_outside.specs.declared.shelf.Shelf.{Ghosts as ShelfMeaning}
use Rattle.rip_outside.specs.declared.fault.ShelfCall.{ShelfCall}
use Rattle.rip_outside.specs.Files.{Files}

-- a shelf at one moment: what it holds, where it tells that, how often each kind of call has failed, and the bytes that it handed out
pub record Look : Type 0 where
  pub held : Option Files
  pub faults : ShelfCall → ℕ
  pub taken : ℕ

abbrev pub look : {S : Type 0} → ShelfMeaning S → S → Look
look means shelf = record { held = means.held shelf; faults = means.faults shelf; taken = means.taken shelf }
