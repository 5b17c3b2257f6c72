pub mod Apart
pub mod Batch
pub mod BatchOutcome
pub mod Inner
