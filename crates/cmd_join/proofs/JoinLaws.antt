-- The files of a disc that is joined.
use Rattle.std.proofs.Common.{◌≡◌, ℕ, List, Ok}
use Rattle.rip_outside.specs.Files.{Files}
use Rattle.rip_inputs.specs.Opening.{Opened}
use Rattle.track_split.specs.Tracks.{join_names}
use Rattle.engine_steps.specs.Outcome.{Outcome}
use Rattle.engine_steps.specs.Steps.{free, opened}
use Rattle.cmd_join.specs.JoinOutcome.{IsJoinOutcome, joined_as}

pub join_meets : (input to : List ℕ) (rip : Opened) (files : Files) (o : Outcome) → opened input files ≡ Ok rip → free (join_names to) rip.names files ≡ Ok tt
    → o ≡ joined_as to rip → IsJoinOutcome input to files o
join_meets input to rip files o found is_free is = rw (found, is_free) is
