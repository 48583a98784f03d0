pub mod Texts
pub mod Digits
pub mod Decimals
pub mod Lengths
pub mod Listed
