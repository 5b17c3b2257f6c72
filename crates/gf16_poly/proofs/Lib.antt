pub mod PowerSums
pub mod Roots
pub mod Locator
pub mod Discrepancies
pub mod FlipSums
pub mod Reversed
pub mod Weights
