pub mod JoinOutcome
