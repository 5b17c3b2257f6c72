-- What a shelf that keeps its calls tells of crashes.
use Rattle.std.specs.Prelude.{◌↔◌, List, length}
use Rattle.std.proofs.Common.{sym, arith, subst}
use Rattle.std.proofs.lemmas.List.{take_all}
use Rattle.rip_outside.specs.Files.{Files}
use Rattle.rip_outside.specs.Crashes.{Crashes}
use Rattle.rip_memory.specs.declared.served.Served.{Served}
use Rattle.rip_memory.specs.Served.{files_after, unsettled_after, MayLeaveAfter, LeftSince}

-- since the last call there is no moment but now
pub left_now : (calls : List Served) (left : Files) → LeftSince calls (length calls) left ↔ MayLeaveAfter calls left
left_now calls left = (
  λ s. subst (λ c. MayLeaveAfter c left) (take_all s.0 calls s.1) s.3,
  λ now. (length calls, omega arith, omega arith, subst (λ c. MayLeaveAfter c left) (sym (take_all (length calls) calls (omega arith))) now),
)

abbrev pub crashes_of : List Served → Crashes
crashes_of calls = record {
  time = length calls;
  files = files_after calls;
  unsettled = unsettled_after calls;
  since = LeftSince calls;
  since_now = left_now calls;
  since_earlier = λ t later left le _ s. (s.0, omega (arith, le, s.1), s.2, s.3);
}
