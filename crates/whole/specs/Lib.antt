pub mod Convert
pub mod Compare
pub mod Checked
pub mod Bits
