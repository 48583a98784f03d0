pub mod Ports
pub mod Classes
pub mod Kinds
pub mod Flags
pub mod Limits
pub mod Variants
