pub mod FileState
pub mod KnownNames
