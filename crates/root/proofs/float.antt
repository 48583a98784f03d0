pub mod Near
pub mod Places
pub mod Rounding
pub mod Scaled
pub mod Units
