pub mod Extremes
pub mod Extended
