pub mod Causes
pub mod Counts
pub mod Crashes
pub mod Files
pub mod Listing
pub mod Outputs
pub mod Reading
