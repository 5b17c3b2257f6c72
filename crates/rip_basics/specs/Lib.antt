pub mod Disc
pub mod FileNames
