pub mod Eval
pub mod Starred
pub mod Finite
pub mod Whole
