pub mod Compared
pub mod Damaged
pub mod Generated
