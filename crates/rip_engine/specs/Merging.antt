-- That a merge holds both stores, also after a stop at any moment.
use Rattle.std.specs.Prelude.{◌≡◌, List, ℕ, Result, Ok, IfSome, Some}
use Rattle.rip_outside.specs.Files.{Files}
use Rattle.rip_outside.specs.Outputs.{MayStand}
use Rattle.rip_outside.specs.Crashes.{Crashes, EachMoment, IsSettled, LeavesNow, Outlook, WhereForetold}
use Rattle.cmd_merge.specs.Holding.{HoldsBoth}
use Rattle.cmd_merge.specs.MergeOutcome.{merge_outputs, merge_text}
use Rattle.rip_words.specs.declared.Command.{Command}
use Rattle.rip_words.specs.declared.Command.TheVariants.{MergeStores}
use Rattle.rip_report.specs.declared.status.Status.{Status}
use Rattle.rip_report.specs.declared.status.Status.TheVariants.{Done}
use Rattle.rip_commands.specs.Printing.{Wrote}
use Rattle.rip_commands.specs.Seen.{Seen}

-- After `merge` is done, both stores' records are held and nothing else is new, and what became of each entry was told.
abbrev pub MergeHoldsBoth : Result Command ℕ → Seen → Seen → Status → Type 0
MergeHoldsBoth read before after status = (from to : List ℕ) → read ≡ Ok (MergeStores from to) → status ≡ Done →
    IfSome before.held (λ files. (now : Files) × (after.held ≡ Some now) × HoldsBoth from to files now × Wrote (merge_text from to files) before.told after.told)

-- On a settled shelf, a stop at any moment of `merge` leaves the first new records whole, the next one as it was or whole, and all else but
-- their parts as it was; and after `merge` is done each stop leaves what it holds then.
pub record MergeIsSafe (from to : List ℕ) (status : Status) (old new : Crashes) : Type 0 where
  pub moments : IsSettled old → EachMoment (MayStand (merge_outputs from to old.files) old.files) old new
  pub done : IsSettled old → status ≡ Done → (left : Files) → LeavesNow new left → HoldsBoth from to old.files left

abbrev pub MergeSurvives : Result Command ℕ → Status → Outlook → Outlook → Type 0
MergeSurvives read status before after = (from to : List ℕ) → read ≡ Ok (MergeStores from to) → WhereForetold (MergeIsSafe from to status) before after
