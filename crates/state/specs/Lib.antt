pub mod Held
pub mod Planned
pub mod Trials
pub mod Stores
