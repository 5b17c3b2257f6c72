pub mod SumsOutcome
