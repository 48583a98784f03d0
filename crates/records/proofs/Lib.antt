pub mod Scanned
pub mod Induct
pub mod Runs
pub mod Laid
