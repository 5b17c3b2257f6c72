-- What a shelf in memory holds after the calls that it served, and what a crash may leave of it.
use Rattle.std.specs.Prelude.{ℕ, ◌≤◌, List, [], ◌∷◌, ◌++◌, length, take, if◌then◌else◌}
use Rattle.std.specs.FinMap.{empty}
use Rattle.rip_outside.specs.declared.counts.Counts.{Counts}
use Rattle.rip_outside.specs.Files.{Files, after_make, after_append, after_rename}
use Rattle.rip_outside.specs.Crashes.{is_among, without, MayLeave}
use Rattle.rip_memory.specs.declared.listed.Listed.{Listed}
use Rattle.rip_memory.specs.declared.served.Served.{Served}
use Rattle.rip_memory.specs.declared.served.Served.TheVariants.{Make, Append, Sync, Rename}

-- the names with one more, unless it is among them
abbrev pub with : List ℕ → List (List ℕ) → List (List ℕ)
with name names = if is_among name names then names else names ++ name ∷ []

-- the files after a call
abbrev pub files_by : Served → Files → Files
files_by (Make name done) files = if done then after_make name files else files
files_by (Append name bytes) files = after_append name bytes files
files_by (Sync name) files = files
files_by (Rename from to done) files = if done then after_rename from to files else files

-- the unsettled names after a call
abbrev pub unsettled_by : Served → List (List ℕ) → List (List ℕ)
unsettled_by (Make name done) names = with name names
unsettled_by (Append name bytes) names = with name names
unsettled_by (Sync name) names = without name names
unsettled_by (Rename from to done) names = if is_among from names then with to names else (if done then without to names else names)

-- the files after calls, the first of them first
abbrev pub files_from : List Served → Files → Files
files_from [] files = files
files_from (call ∷ calls) files = files_from calls (files_by call files)

abbrev pub unsettled_from : List Served → List (List ℕ) → List (List ℕ)
unsettled_from [] names = names
unsettled_from (call ∷ calls) names = unsettled_from calls (unsettled_by call names)

-- from the beginning, where nothing is held and all is settled
abbrev pub files_after : List Served → Files
files_after calls = files_from calls empty

abbrev pub unsettled_after : List Served → List (List ℕ)
unsettled_after calls = unsettled_from calls []

-- whether a crash after these calls may leave these files
abbrev pub MayLeaveAfter : List Served → Files → Type 0
MayLeaveAfter calls left = MayLeave (files_after calls) (unsettled_after calls) left

-- whether a crash after so many of these calls, or after more of them, may have left these files
abbrev pub LeftSince : List Served → ℕ → Files → Type 0
LeftSince calls t left = (k : ℕ) × (t ≤ k) × (k ≤ length calls) × MayLeaveAfter (take k calls) left

-- a shelf that tells crashes, as its callers see it: the calls that it served, the counts of failures, the bytes handed
-- out, and the calls that are to fail
pub record CrashFiles : Type 0 where
  pub calls : List Served
  pub faults : Counts
  pub taken : ℕ
  pub listed : List Listed
