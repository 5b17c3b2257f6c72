pub mod Layout
pub mod OneTrack
pub mod Difference
pub mod Toc
pub mod Joined
