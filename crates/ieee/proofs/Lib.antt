pub mod Bits
pub mod Integral
mod Values
mod Truncation
pub mod Units
