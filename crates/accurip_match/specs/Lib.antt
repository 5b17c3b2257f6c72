pub mod Matching
pub mod Name
pub mod Offsets
pub mod Picking
pub mod Response
pub mod Shifted
pub mod Slider
