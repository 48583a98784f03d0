pub mod Bits
pub mod Search
