-- What is printed of what was told.
use Rattle.std.specs.Prelude.{◌≡◌, ◌≢◌, ◌⊎◌, ℕ, List, ◌++◌, take, Option}
use Rattle.std.specs.Option.{option_map}
use Rattle.rip_outside.specs.Causes.{Rose}
use Rattle.rip_report.specs.declared.status.Status.{Status}
use Rattle.rip_report.specs.declared.status.Status.TheVariants.{SinkFault, WantOfMemory}
use Rattle.engine_steps.specs.declared.steps.Answer.{Answer}

-- these bytes were added to the output
abbrev pub Wrote : List ℕ → Option (List ℕ) → Option (List ℕ) → Type 0
Wrote text old new = new ≡ option_map (λ so_far. so_far ++ text) old

-- the line went out and the status is answered, or a front part of it did and the sink failed
abbrev pub Reported : Status → List ℕ → Option (List ℕ) → Option (List ℕ) → ℕ → ℕ → Status → Type 0
Reported status text old new before now answer =
    ((answer ≡ status) × Wrote text old new) ⊎ ((answer ≡ SinkFault) × Rose before now × ((n : ℕ) × Wrote (take n text) old new))

-- Want of memory prints nothing. Any other status is answered once its text went out, or the sink failed.
abbrev pub Printed : Answer → Option (List ℕ) → Option (List ℕ) → ℕ → ℕ → Status → Type 0
Printed told old new before now answer =
    ((told.status ≡ WantOfMemory) × (answer ≡ WantOfMemory) × (new ≡ old)) ⊎ ((told.status ≢ WantOfMemory) × Reported told.status told.text old new before now answer)
