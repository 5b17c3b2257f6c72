pub mod Lines
pub mod Parts
pub mod Sheet
pub mod Reading
pub mod Progress
