pub mod Starred
pub mod Laws
pub mod Whole
