pub mod Named
pub mod Back
pub mod Stages
pub mod Entries
