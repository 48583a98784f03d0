pub mod Splices
pub mod Sizes
pub mod ReadBack
pub mod TextAgain
pub mod Held
