pub mod Values
pub mod Stores
pub mod Scans
