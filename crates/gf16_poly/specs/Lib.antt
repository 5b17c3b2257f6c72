pub mod Register
pub mod Division
