pub mod RegisterOutcome
