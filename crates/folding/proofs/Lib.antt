pub mod Alike
pub mod Outcomes
pub mod Stages
pub mod Kept
