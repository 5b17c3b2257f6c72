-- That a disc which was split or joined is read again as it was.
use Rattle.std.specs.Prelude.{◌≡◌, ℕ, ◌≤◌, List, ◌++◌, length, Result, Ok, Some, IfSome, codes}
use Rattle.rip_outside.specs.Files.{Files}
use Rattle.rip_commands.specs.Seen.{Seen}
use Rattle.rip_inputs.specs.Opening.{IsReadAs, Opened, rip_reading}
use Rattle.rip_words.specs.FileNames.{name_in_folder}
use Rattle.rip_words.specs.declared.Command.{Command}
use Rattle.rip_words.specs.declared.Command.TheVariants.{Join, Split}
use Rattle.rip_report.specs.declared.status.Status.{Status}
use Rattle.rip_report.specs.declared.status.Status.TheVariants.{Done}

-- the name fits into a sheet, which has at most 1,048,576 bytes (file systems take at most some hundreds)
abbrev pub FitsSheet : List ℕ → Type 0
FitsSheet name = length name ≤ 1000000

-- After `split` is done, the sheet in the folder is read as the disc that INPUT was, and after `join` the sheet beside the file is. So
-- `join` after `split` writes the words that INPUT had, and both keep all ids of the disc.
abbrev pub DiscIsReadAgain : Result Command ℕ → Seen → Seen → Status → Type 0
DiscIsReadAgain read before after status = (input : List ℕ) (rip : Opened) → status ≡ Done →
    IfSome before.held (λ files. rip_reading input files ≡ Ok rip →
    ((folder : List ℕ) → read ≡ Ok (Split input folder) → (now : Files) × (after.held ≡ Some now) × IsReadAs rip (folder ++ codes "disc.cue") now)
    × ((to : List ℕ) → read ≡ Ok (Join input to) → FitsSheet (name_in_folder to) → (now : Files) × (after.held ≡ Some now) × IsReadAs rip (to ++ codes ".cue") now))
