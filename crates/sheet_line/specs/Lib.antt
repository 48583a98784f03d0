pub mod Limits
pub mod Characters
pub mod Reader
