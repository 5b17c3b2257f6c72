pub mod Kinds
pub mod Matches
pub mod Report
pub mod Stores
pub mod Sums
pub mod Texts
pub mod Trial
