-- When a line is shown.
use Rattle.std.specs.Prelude.{ℕ, ◌-◌, ◌≤◌, Option, IfSome}
use Rattle.std.specs.Option.{IsSomeAnd}
use Rattle.std.specs.declared.time.Instant.{Instant}
use Rattle.std.specs.Time.{instant_nanos}

-- at least so many nanoseconds lie between two times
abbrev pub AreApart : ℕ → Instant → Instant → Type 0
AreApart nanos earlier later = nanos ≤ instant_nanos later - instant_nanos earlier

-- A line is due once reading began a second ago, and the last line, if there was one, has stood for a fifth of one.
abbrev pub IsDue : Option Instant → Option Instant → Instant → Type 0
IsDue began shown now = IsSomeAnd began (λ first. AreApart 1_000_000_000 first now) × IfSome shown (λ last. AreApart 200_000_000 last now)
