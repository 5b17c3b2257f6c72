pub mod Cuts
pub mod Sheets
pub mod Tracks
