pub mod Agreement
pub mod Picking
