pub mod Entry
pub mod Demands
