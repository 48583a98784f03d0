pub mod Graph
pub mod Layout
pub mod Questions
pub mod Decode
pub mod Refusals
pub mod Index
