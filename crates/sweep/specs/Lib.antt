pub mod Removals
pub mod Queue
pub mod Eligible
pub mod Swept
