pub mod Queue
pub mod Joins
pub mod Turns
