pub mod Edges
pub mod Steps
pub mod Slides
