pub mod Stages
pub mod Kept
