pub mod Lanes
pub mod Widths
pub mod Pieces
pub mod ReadBack
