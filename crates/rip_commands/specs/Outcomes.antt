-- The outcome of the words of a command line, and the names that it reads.
use Rattle.std.specs.Prelude.{◌≡◌, ℕ, ◌+◌, ◌*◌, List, Result, Ok, Err, Option, None, ℤ}
use Rattle.rip_outside.specs.Files.{Files}
use Rattle.column_map.specs.Npar.{parity_words}
use Rattle.rip_inputs.specs.Opening.{lengths_of, names_read}
use Rattle.rip_report.specs.declared.status.Status.TheVariants.{Usage}
use Rattle.rip_words.specs.declared.Command.{Command}
use Rattle.rip_words.specs.declared.Command.TheVariants.{Register, Verify, Offsets, Repair, Upgrade, MatchSums, Sums, Trial, Split, Join, ListStore, CheckStore, MergeStores}
use Rattle.engine_steps.specs.Outcome.{Outcome, refused}
use Rattle.cmd_register.specs.RegisterOutcome.{IsRegisterOutcome}
use Rattle.cmd_verify.specs.VerifyOutcome.{IsVerifyOutcome}
use Rattle.cmd_offsets.specs.OffsetsOutcome.{IsOffsetsOutcome}
use Rattle.cmd_repair.specs.RepairOutcome.{IsRepairOutcome}
use Rattle.cmd_upgrade.specs.UpgradeOutcome.{IsUpgradeOutcome}
use Rattle.cmd_sums.specs.SumsOutcome.{IsSumsOutcome}
use Rattle.cmd_match.specs.MatchOutcome.{IsMatchOutcome, matched_names}
use Rattle.cmd_split.specs.SplitOutcome.{IsSplitOutcome}
use Rattle.cmd_join.specs.JoinOutcome.{IsJoinOutcome}
use Rattle.cmd_store.specs.StoreOutcome.{IsCheckOutcome, IsListOutcome}
use Rattle.cmd_merge.specs.MergeOutcome.{IsMergeOutcome, merged_names}
use Rattle.store_upkeep.specs.Entries.{entries_in}
use Rattle.cmd_trial.specs.TrialOutcome.{IsTrialOutcome}
use Rattle.engine_steps.specs.Comparing.{compared_names}
use Rattle.engine_steps.specs.Steps.{compared}
use Rattle.engine_search.specs.Agreement.{ReadsCompared}

-- one case for each command
abbrev pub IsCommandOutcome : Command → Files → Outcome → Type 0
IsCommandOutcome (Register input rec npar) files outcome = IsRegisterOutcome input rec (parity_words npar) files outcome
IsCommandOutcome (Verify input rec offset) files outcome = IsVerifyOutcome input rec offset files outcome
IsCommandOutcome (Offsets input rec) files outcome = IsOffsetsOutcome input rec files outcome
IsCommandOutcome (Repair input rec to offset) files outcome = IsRepairOutcome input rec to offset files outcome
IsCommandOutcome (Upgrade input rec) files outcome = IsUpgradeOutcome input rec files outcome
IsCommandOutcome (MatchSums input resp) files outcome = IsMatchOutcome input resp files outcome
IsCommandOutcome (Sums input) files outcome = IsSumsOutcome input files outcome
IsCommandOutcome (Split input folder) files outcome = IsSplitOutcome input folder files outcome
IsCommandOutcome (Join input to) files outcome = IsJoinOutcome input to files outcome
IsCommandOutcome (ListStore folder) files outcome = IsListOutcome folder files outcome
IsCommandOutcome (CheckStore folder) files outcome = IsCheckOutcome folder files outcome
IsCommandOutcome (MergeStores from to) files outcome = IsMergeOutcome from to files outcome
IsCommandOutcome (Trial sectors seed shift hits) files outcome = IsTrialOutcome sectors seed shift hits outcome

-- The outcome of the words, by their reading, over these files. At most one outcome meets it.
abbrev pub IsOutcomeOf : Result Command ℕ → Files → Outcome → Type 0
IsOutcomeOf (Err word) files outcome = outcome ≡ refused (Usage word)
IsOutcomeOf (Ok read) files outcome = IsCommandOutcome read files outcome

-- the most bytes that a command on a rip and a record takes: three times those of the files that it reads, as far as it reads them, and
-- as many again for each reading for a seal
abbrev pub IsMostCompared : List ℕ → List ℕ → Option ℤ → Files → ℕ → Type 0
IsMostCompared input rec offset files most =
    (times : ℕ) × ReadsCompared (compared input rec files) offset times × (most ≡ (3 + times) * lengths_of (compared_names input rec files) files)

-- the most bytes that a command takes where no call fails
abbrev pub IsMostTaken : Result Command ℕ → Files → ℕ → Type 0
IsMostTaken (Err word) files most = most ≡ 0
IsMostTaken (Ok (Register input rec npar)) files most = most ≡ 3 * lengths_of (names_read input files) files
IsMostTaken (Ok (Verify input rec offset)) files most = IsMostCompared input rec offset files most
IsMostTaken (Ok (Offsets input rec)) files most = IsMostCompared input rec None files most
IsMostTaken (Ok (Repair input rec to offset)) files most = IsMostCompared input rec offset files most
IsMostTaken (Ok (Upgrade input rec)) files most = most ≡ 3 * lengths_of (compared_names input rec files) files
IsMostTaken (Ok (MatchSums input resp)) files most = most ≡ 11 * lengths_of (matched_names input resp files) files
IsMostTaken (Ok (Sums input)) files most = most ≡ 3 * lengths_of (names_read input files) files
IsMostTaken (Ok (Split input folder)) files most = most ≡ 3 * lengths_of (names_read input files) files
IsMostTaken (Ok (Join input to)) files most = most ≡ 3 * lengths_of (names_read input files) files
IsMostTaken (Ok (ListStore folder)) files most = most ≡ 3 * lengths_of (entries_in folder files) files
IsMostTaken (Ok (CheckStore folder)) files most = most ≡ 3 * lengths_of (entries_in folder files) files
IsMostTaken (Ok (MergeStores from to)) files most = most ≡ 3 * lengths_of (merged_names from to files) files
IsMostTaken (Ok (Trial sectors seed shift hits)) files most = most ≡ 0
