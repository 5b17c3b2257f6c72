-- What is planned of a merge before anything is written.
use Rattle.std.specs.Prelude.{ℕ, Bool, List, filter, flat_map, length, map}
use Rattle.rip_outside.specs.Files.{Files}
use Rattle.rip_outside.specs.Outputs.{part_of}
use Rattle.store_upkeep.specs.Entries.{entries_in}
use Rattle.cmd_merge.specs.declared.fate.Fate.{Fate}
use Rattle.cmd_merge.specs.declared.planning.Planned.{Planned}
use Rattle.cmd_merge.specs.MergeOutcome.{added_among, fate_of, is_added, line_of_entry, target}

-- an entry of FROM, its name in TO, and what becomes of it
abbrev pub planned : List ℕ → List ℕ → Files → List ℕ → Planned
planned from to files name = record { name = name; out = target from to name; fate = fate_of from to files name }

-- the lines of what is planned
abbrev pub planned_lines : List Planned → List ℕ
planned_lines plan = flat_map (λ p. line_of_entry p.name p.out p.fate) plan

-- how many entries have such a fate
abbrev pub count_planned : (Fate → Bool) → List Planned → ℕ
count_planned has plan = length (filter (λ p. has p.fate) plan)

-- what is to be added
abbrev pub additions : List Planned → List Planned
additions plan = filter (λ p. is_added p.fate) plan

-- the names under which the additions are made
abbrev pub planned_parts : List Planned → List (List ℕ)
planned_parts plan = map (λ p. part_of p.out) plan

-- the entries of FROM that are added to TO, as they are planned
abbrev pub planned_additions : List ℕ → List ℕ → Files → List Planned
planned_additions from to files = map (planned from to files) (added_among from to files (entries_in from files))
