pub mod Image
pub mod Columns
pub mod Mending
pub mod Npar
pub use Rattle.rip_basics.specs.Disc
