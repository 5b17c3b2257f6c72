pub mod MatchOutcome
pub mod Span
