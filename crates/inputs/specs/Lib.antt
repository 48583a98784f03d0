pub mod Inputs
pub mod Reading
