pub mod TrialFiles
pub mod TrialOutcome
