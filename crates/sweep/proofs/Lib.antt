pub mod Lists
pub mod Orders
pub mod Queues
pub mod Releases
pub mod Sweeps
pub mod Stays
pub mod Marks
