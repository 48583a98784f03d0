pub mod Laws
pub mod Convert
pub mod Checked
pub mod Bits
pub mod Order
