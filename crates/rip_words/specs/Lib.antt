pub mod Command
pub mod FileNames
