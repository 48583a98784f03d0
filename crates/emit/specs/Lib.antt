pub mod Emit
pub mod Emission
