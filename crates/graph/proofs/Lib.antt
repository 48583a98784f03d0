pub mod Roles
pub mod Asked
pub mod Added
