pub mod Floors
pub mod Newton
pub mod Shifts
pub mod Squares
