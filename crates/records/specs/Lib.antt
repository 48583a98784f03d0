pub mod Access
pub mod Scanned
