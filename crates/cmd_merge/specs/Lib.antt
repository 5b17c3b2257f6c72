pub mod Holding
pub mod MergeOutcome
pub mod Planning
