pub mod Bits
pub mod Finite
pub mod Integral
pub mod Parts
pub mod Signs
