pub mod Comparing
pub mod Crashing
pub mod Outcome
pub mod Steps
