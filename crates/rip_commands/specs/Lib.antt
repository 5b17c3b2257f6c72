pub mod Look
pub mod Outcomes
pub mod Printing
pub mod Ran
pub mod Seen
