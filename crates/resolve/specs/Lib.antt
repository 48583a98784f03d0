pub mod Reads
pub mod Gives
